pub mod Refusals
pub mod Sections
pub mod Steps
pub mod Tables
