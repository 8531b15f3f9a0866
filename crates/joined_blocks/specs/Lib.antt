pub mod Sums
pub mod Erases
pub mod Values
