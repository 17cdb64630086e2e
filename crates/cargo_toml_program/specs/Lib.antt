-- what the words ask for, what is printed of a manifest, and what a run says of its end: a user has
-- to believe these, and there are no others
pub mod Words
pub mod Lines
pub mod Completed
pub mod Printing
pub mod Printed
pub mod Outcomes
