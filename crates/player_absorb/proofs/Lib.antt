pub mod Outcomes
pub mod Sums
