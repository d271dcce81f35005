-- What an accepted file's tables give, for types and nodes alike.
pub mod Ranges
pub mod Given
-- What an index that remembers tells of a constant.
pub mod Fates
