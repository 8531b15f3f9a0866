pub mod Answers
pub mod Rigs
pub mod Turn
pub mod Plays
pub mod Ready
pub mod CameTo
