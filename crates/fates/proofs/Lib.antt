-- A word's digits, and a row's words.
pub mod Packed
-- The parts of what has a row.
pub mod Parts
-- An index that remembers is right.
pub mod Right
-- The bindings in turn.
pub mod Bindings
-- What is heard, and the fates.
pub mod Hearing
