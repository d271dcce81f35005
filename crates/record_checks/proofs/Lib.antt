pub mod Every
pub mod Seen
pub mod Marks
pub mod Rising
