pub mod Told
pub mod Gathered
