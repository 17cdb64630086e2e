-- actions, the graph and what removal leaves: a user has to believe these
pub mod Action
pub mod Reach
pub mod Graph
pub mod Removal
pub mod Redirects
pub mod Bins
pub mod Recursive
pub mod Kept
pub mod Admitted
pub mod Ascending
-- worked examples, which compute: nothing here has to be believed
pub mod SmallTables
