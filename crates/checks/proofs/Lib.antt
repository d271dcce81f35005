pub mod Bottom
pub mod Fill
pub mod Last
pub mod Marks
pub mod Views
pub mod Verdicts
