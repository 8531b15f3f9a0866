pub mod Lines
pub mod Classes
pub mod Theorem
pub mod Recordings
