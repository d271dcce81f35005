pub mod Stores
pub mod Forms
pub mod Places
