pub mod CompletedTold
pub mod ReadAgain
pub mod ReadAgainTypes
pub mod ReadParts
pub mod Rows
pub mod Spelled
pub mod Writers
mod Cited
