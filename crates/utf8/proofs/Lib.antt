pub mod Nexts
pub mod Blocks
