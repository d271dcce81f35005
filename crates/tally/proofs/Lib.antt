pub mod Counts
pub mod Splits
-- Where a byte stands.
pub mod Finds
