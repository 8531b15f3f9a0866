pub mod Turns
pub mod Telling
