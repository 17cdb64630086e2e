pub mod Steps
mod Spans
pub mod RowsInOrder
pub mod Sets
pub mod InOrder
pub mod NumberRows
pub mod AgainstAll
pub mod InPlace
pub mod Answered
mod HashedKept
pub mod ByFilter
pub mod BinTurns
pub mod Learning
pub mod TakenOver
mod Cited
