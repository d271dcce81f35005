-- Byte strings, values and where their bytes end.
pub mod Bytes
pub mod Ends
pub mod Unique
pub mod Typed
pub mod Orders
-- Placement: what a level that is being built asks of a key, each placement forwards and backwards.
pub mod Placing
pub mod Folding
pub mod Steps
pub mod Unplaced
pub mod Folded
pub mod Planned
-- The walk, whatever the key.
pub mod Quiet
pub mod Grows
pub mod Values
-- Constants, both ways, and what an accepted file gives.
pub mod Constants
pub mod Accepts
pub mod FileFacts
pub mod ConstSlots
-- No fact is skipped.
pub mod Forward
pub mod Names
pub mod Pieces
pub mod Patterns
pub mod Level
pub mod NoFactSkipped
-- No fact is added, and so the level keeps exactly the keys that match.
pub mod Backward
pub mod NamesBack
pub mod PiecesBack
pub mod PatternsBack
pub mod LevelBack
pub mod Exact
-- Of the exported function.
pub mod Contract
-- Worked keys and planted mistakes.
pub mod Rows
pub mod Mistakes
