-- The constant that a pattern stands for, along a chain of reads.
pub mod Chains
-- What the code sees, and the steps that follow.
pub mod Seen
-- The steps, and what they come to.
pub mod Steps
-- A record's fields in turn, and the levels.
pub mod Going
-- What is met hangs on no limit.
pub mod Same
-- A file without a constant.
pub mod Constants
