-- what a manifest is, what it inherits and what is found: a user has to believe these
pub mod Manifests
pub mod Texts
pub mod Told
pub mod Roots
pub mod Choosing
pub mod Inheriting
pub mod Finding
pub mod Completing
pub mod Completed
pub mod Refusing
pub mod RealFiles
-- the code's own steps, in contracts of inner functions alone: nothing here has to be believed
pub mod Gathering
pub mod Installing
pub mod Answering
