pub mod Forward
pub mod Cases
pub mod Lists
pub mod Places
