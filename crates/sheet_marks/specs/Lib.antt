pub mod Marks
pub mod Taken
