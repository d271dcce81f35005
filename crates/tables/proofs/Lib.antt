-- What is known where a view is not of the form that was asked for.
pub mod Tags
-- Searches, step by step.
pub mod Digits
pub mod Recalls
pub mod Firsts
pub mod Searches
pub mod Fates
pub mod Pairs
