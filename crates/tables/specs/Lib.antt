pub mod Tables
pub mod Recalled
