pub mod Hex
pub mod Doors
pub mod Names
pub mod OwnFields
pub mod Literals
