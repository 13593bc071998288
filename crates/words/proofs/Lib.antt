pub mod Wrapping
pub mod Spelling
