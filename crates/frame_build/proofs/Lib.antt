pub mod Buffers
pub mod Built
pub mod Frames
pub mod Sum
