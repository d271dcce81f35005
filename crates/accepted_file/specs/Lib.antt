pub mod AcceptedFile
pub mod Fates
pub mod Tables
pub mod Props
