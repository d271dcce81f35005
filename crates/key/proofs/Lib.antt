-- A record's fields in turn.
pub mod Fields
pub mod Going
-- A path one step deeper.
pub mod Deeper
-- What gives nothing but a skip.
pub mod Quiet
-- What each member of the cycle ends in.
pub mod Rounds
-- The fields of a record key.
pub mod Walked
-- What goes on from a read's answer.
pub mod Answered
-- The whole key in one pattern.
pub mod Whole
-- `key`, by its kinds.
pub mod Keys
