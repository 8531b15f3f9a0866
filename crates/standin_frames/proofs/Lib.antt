pub mod Frames
pub mod Alike
pub mod Outcomes
