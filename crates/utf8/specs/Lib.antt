pub mod Wants
