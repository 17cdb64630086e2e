-- how each type is written: a user has to believe these
pub mod Writes
pub mod Requirements
pub mod Ways
pub mod Asked
pub mod WrittenDependencies
pub mod WrittenManifests
pub mod WrittenPackages
pub mod WrittenTables
pub mod Reread
-- why each way is lawful, the code's own steps, and worked examples: nothing here has to be
-- believed
pub mod Lawful
pub mod Examples
