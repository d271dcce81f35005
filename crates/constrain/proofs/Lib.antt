-- What narrows a walk.
pub mod Narrowings
-- The constraints of a variable, by rank.
pub mod Ranks
