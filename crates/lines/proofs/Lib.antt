pub mod Hexes
pub mod Fronts
pub mod Calls
