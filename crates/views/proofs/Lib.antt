pub mod Runs
pub mod PathsAt
pub mod Entries
pub mod Nodes
pub mod Slots
pub mod Arms
mod Past
