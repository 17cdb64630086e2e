-- what a report on a workspace says, of what was read: a user has to believe these
pub mod AuditedFiles
pub mod Audited
pub mod Oddities
pub mod Entries
pub mod MemberFolders
pub mod Limits
pub mod Places
pub mod Patterns
-- the code's own steps, in contracts of inner functions alone: nothing here has to be believed
pub mod Steps
