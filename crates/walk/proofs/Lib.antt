pub mod Diagnoses
-- A walk's level and its lists.
pub mod Parts
