pub mod Conditions
pub mod Recorded
