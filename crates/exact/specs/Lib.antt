-- Request [10], "The level keeps exactly the keys that match": values, keys, what a level asks of one, and the matcher.
pub mod Values
pub mod Keys
pub mod Passes
pub mod Matcher
-- How a level's events are placed.
pub mod Placings
-- What is claimed, and when.
pub mod Conditions
pub mod Claims
-- The order that comparisons go by.
pub mod Orders
-- Worked keys, and keys that show what a mistake in placement does.
pub mod Rows
pub mod Mistakes
