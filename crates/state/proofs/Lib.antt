-- Once the plan is too long nothing changes any more.
pub mod Stopped
-- The lists, as their runs hold them.
pub mod Seqs
pub mod Backwards
pub mod Made
pub mod Mem
-- A level, as the memory keeps it, and when it fits.
pub mod Sizes
pub mod Growth
-- The memory and the written rules' walk, side by side.
pub mod Rel
pub mod Fitting
pub mod Names
pub mod Sim
-- A level in the plan, the list of levels, and the whole plan.
pub mod Frame
pub mod Paged
pub mod Leveled
pub mod Whole
