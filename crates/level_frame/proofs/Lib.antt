pub mod Seeks
pub mod Puts
pub mod Places
pub mod Middles
