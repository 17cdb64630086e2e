-- which features are removed: a user has to believe these
pub mod Filter
pub mod Removed
-- the code's own steps, in contracts of functions that `cargo_toml` doesn't hand on: nothing here
-- has to be believed
pub mod Numbers
pub mod Spans
pub mod Holding
pub mod KeptFeatures
pub mod Texts
pub mod Numbering
pub mod Parts
pub mod Passing
pub mod Placed
pub mod Enabling
pub mod NumberedTables
