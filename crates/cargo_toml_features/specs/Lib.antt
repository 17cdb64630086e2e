-- what is listed, what is answered and what binaries require: a user has to believe these
pub mod Reached
pub mod NonDefault
pub mod Recorded
pub mod Marks
pub mod Resolved
pub mod Views
pub mod FirstTarget
pub mod Entries
pub mod TargetLaws
pub mod Hashed
pub mod Agreement
pub mod OwnBins
-- the code's own steps, in contracts of functions that `cargo_toml` doesn't hand on, and worked
-- examples: nothing here has to be believed
pub mod ActionText
pub mod Visits
pub mod Examples
pub mod InOrder
pub mod Places
pub mod FullGraph
pub mod Said
pub mod Vertices
pub mod Made
pub mod Slots
pub mod Searching
