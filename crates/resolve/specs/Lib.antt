pub mod Resolved
pub mod Chains
