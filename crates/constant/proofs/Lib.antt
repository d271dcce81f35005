-- Escaped bytes, one after another.
pub mod Escapes
-- The least of a run of bytes, and bytes that are their own escaped form.
pub mod Plain
-- A type of the form asked for, or not.
-- Lengths that stop at the cap.
pub mod Caps
-- The fields and the payload, measured.
pub mod Measured
-- What `constant` gives for each form of node.
pub mod Arms
pub mod Known
-- Whether there are bytes at all.
pub mod Has
pub mod Lacks
