-- What a member of the walk's cycle does before it goes on into the cycle.
pub mod FieldCases
-- The pieces of a record pattern against a record type.
pub mod Pieces
-- What gives nothing but a skip.
pub mod Silent
