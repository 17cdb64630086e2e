-- how deep a text nests: a user has to believe this
pub mod Nesting
-- how the code keeps a place
pub mod Places
