-- what resolving a manifest answers, and by which filter
pub mod Filtered
pub mod Parsed
-- what is left of a manifest that is lent on
pub mod Lent
