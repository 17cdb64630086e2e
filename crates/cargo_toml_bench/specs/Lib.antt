-- what the proved callers promise, and what files in memory state: a user has to believe these
pub mod Reports
pub mod Spelled
pub mod Printing
pub mod Alike
pub mod Pairs
pub mod Audiences
pub mod Versioned
pub mod CompletedTexts
pub mod InMemory
-- the code's own steps, in contracts of inner functions and of `plain` alone: no caller's promise
-- rests on these
pub mod Alone
pub mod Removing
