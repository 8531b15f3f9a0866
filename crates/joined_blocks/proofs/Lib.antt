pub mod Erases
pub mod PartsPut
pub mod Sums
pub mod Values
