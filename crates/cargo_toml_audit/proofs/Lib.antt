pub mod Cited
pub mod Matched
pub mod Taking
pub mod Texts
pub mod Walked
pub mod Walking
