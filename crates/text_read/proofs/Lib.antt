pub mod Digits
pub mod Parts
pub mod Lines
pub mod Units
pub mod Numerals
pub mod Stores
pub mod NamedChips
