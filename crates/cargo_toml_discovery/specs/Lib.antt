-- what is told and seen of folders, and what is found in them: a user has to believe these
pub mod Names
pub mod Told
pub mod Folders
pub mod Answers
pub mod Seen
pub mod Around
pub mod Sorting
pub mod Found
pub mod Discovering
pub mod Disk
-- how the code gathers names and finds products, in contracts of inner functions alone: nothing
-- here has to be believed
pub mod Walk
