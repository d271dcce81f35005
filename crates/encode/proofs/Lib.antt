-- Bytes written one run after another.
pub mod Puts
-- What a constant's bytes are made of.
pub mod Parts
-- What a caller of `put_constant` has to show, from what `constant` said.
pub mod Callers
