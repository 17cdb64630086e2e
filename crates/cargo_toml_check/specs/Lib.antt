pub mod Alone
pub mod Blamed
pub mod Listed
pub mod Shown
pub mod FromFiles
pub mod Judged
pub mod IndexFiles
