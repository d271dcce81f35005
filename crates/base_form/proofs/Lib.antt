pub mod Rows
pub mod Lengths
