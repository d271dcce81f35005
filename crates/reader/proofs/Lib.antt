pub mod Opens
pub mod Copied
pub mod Reread
