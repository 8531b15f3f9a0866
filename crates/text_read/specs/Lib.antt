pub mod Answers
pub mod Bytes
pub mod Numerals
pub mod Sheets
pub mod Chips
pub mod Units
