-- What the cycle's members give.
pub mod Cycle
