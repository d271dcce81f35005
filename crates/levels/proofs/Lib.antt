mod Between
mod Walks
mod Writes
