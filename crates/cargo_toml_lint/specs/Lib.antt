-- what is found of a manifest: a user has to believe these
pub mod Taken
pub mod Known
pub mod Findings
pub mod Turning
-- the code's own steps, in contracts of inner functions, and `AreLinks` and `AreFound`, which a
-- caller only hands on from `Links::new` to `turned_on`: nothing here has to be believed
pub mod Linked
pub mod Names
pub mod Reached
pub mod Steps
