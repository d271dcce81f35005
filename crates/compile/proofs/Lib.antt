pub mod Ends
pub mod Verdicts
