pub mod HandedOut
pub mod Memories
pub mod Writes
