pub mod Cited
pub mod Expressions
pub mod Numbers
pub mod Placed
pub mod Grown
pub mod Reaching
pub mod Rowed
pub mod LeftNone
