-- what a caller from C gets: a user has to believe these
pub mod Handed
