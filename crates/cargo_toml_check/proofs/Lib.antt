pub mod Cited
pub mod Completed
pub mod Latest
pub mod Joins
