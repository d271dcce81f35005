pub mod Tidy
pub mod Clear
