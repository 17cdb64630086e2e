pub mod Adding
pub mod Placing
pub mod Answering
pub mod Cutting
pub mod Gaining
pub mod Reading
