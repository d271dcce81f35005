pub mod Rooms
pub mod Steps
pub mod Answers
pub mod Chains
-- One read of a variable.
pub mod OneRead
