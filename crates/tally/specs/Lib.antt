pub mod Bytes
pub mod Tallies
pub mod Tests
