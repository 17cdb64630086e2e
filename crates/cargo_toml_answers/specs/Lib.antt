-- what the calls answer, and why they are refused: a user has to believe these
pub mod Answered
pub mod Refused
pub mod Archived
-- how JSON is written
pub mod Adding
