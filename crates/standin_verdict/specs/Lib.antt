pub mod Inside
pub mod Ranges
