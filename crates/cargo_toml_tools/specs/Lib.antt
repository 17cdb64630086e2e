-- what an index takes, and what is amiss, documented or odd; what the words ask for, and the
-- statuses: a user has to believe these
pub mod Platforms
pub mod Indexed
pub mod IndexEntries
pub mod Linted
pub mod Documented
pub mod Asked
-- what the tools answer of files, and why they refuse
pub mod Left
pub mod FromFiles
pub mod Alone
pub mod IndexedFiles
-- the code's own steps, in contracts of inner functions alone: nothing here has to be believed
pub mod Sections
