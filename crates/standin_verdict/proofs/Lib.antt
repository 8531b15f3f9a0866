pub mod Silencing
pub mod Ranges
pub mod Readings
pub mod Same
pub mod Verdicts
