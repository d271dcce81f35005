pub mod Seek
pub mod Bounds
pub mod Narrow
