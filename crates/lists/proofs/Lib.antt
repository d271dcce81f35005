pub mod Appends
pub mod Forms
pub mod Bounds
pub mod Scans
pub mod Fits
pub mod Finds
