pub mod Again
pub mod Ascend
pub mod Faults
pub mod Lookups
pub mod Placed
pub mod Stable
pub mod Stems
pub mod Unique
mod Cited
