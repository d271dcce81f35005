pub mod Founds
pub mod Leaves
pub mod Levels
pub mod Slots
pub mod Plans
pub mod Views
