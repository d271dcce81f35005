pub mod Doors
pub mod ReadBack
pub mod Names
pub mod OwnFields
pub mod Literals
