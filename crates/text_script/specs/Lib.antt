pub mod Answers
pub mod Script
pub mod Chips
pub mod ChipFiles
