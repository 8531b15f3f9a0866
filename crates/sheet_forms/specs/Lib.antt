pub mod Moves
pub mod OldReader
