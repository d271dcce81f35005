-- A walk narrowed by constants, and by a variable's constraints.
pub mod Constrain
