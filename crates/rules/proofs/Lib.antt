-- Laws that the theorems share.
pub mod Cases
pub mod BottomUp
pub mod Each
pub mod Scalars
-- Sentences of document 01, one step each.
pub mod Sentences
-- What demand 3 reaches, of the record alone.
pub mod AddsUp
-- What an accepted file's tables give, a path grown inside their types, for any limit of depth, and the induction over the walk.
pub mod Sound
pub mod Grown
pub mod Keeps
-- What a state that no operation changes keeps: itself.
pub mod Idle
-- `constant`, without its bound.
pub mod Constants
-- Two runs of the walk side by side.
pub mod Choices
pub mod Runs
pub mod Alone
-- The bindings as they stand, and the file's.
pub mod Consts
-- What a walk notes, by the tables alone.
pub mod Literals
-- The flip by its formula and by its table.
pub mod Flip
-- Reading back what a plan holds.
pub mod RoundTrip
-- The grammar of names.
pub mod Utf8
-- What a reader gives, and demand 1.
pub mod Readers
pub mod Numbers
pub mod Demand1
-- Demand 3.
pub mod Lists
pub mod Emits
pub mod Skipped
pub mod Kept
pub mod Demand3
-- A closer and its tag.
pub mod Closers
-- Diagnostic 4.
pub mod Repeats
-- What later code leans on.
pub mod Paths
-- The plan reader.
pub mod ReaderRows
pub mod ReaderWrites
pub mod ReaderRules
pub mod ReaderCuts
pub mod ReaderReads
pub mod ReaderTables
pub mod ReaderWithin
pub mod ReaderPlaced
pub mod ReaderLevels
pub mod ReaderCompiled
