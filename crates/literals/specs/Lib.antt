-- Whether there are constants; a chain of reads by the constant at its end; the steps of the pass.
pub mod Constants
pub mod Chains
pub mod Steps
