pub mod Searches
pub mod PathsAt
pub mod Slots
