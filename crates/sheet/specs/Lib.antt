pub mod Answers
pub mod Entry
pub mod Head
pub mod Reading
pub mod Taken
