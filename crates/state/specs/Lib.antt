pub mod State
pub mod Ops
pub mod Levels
