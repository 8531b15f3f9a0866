pub mod Answers
pub mod Bytes
pub mod Choices
pub mod First
pub mod OptionBits
pub mod Sheet
pub mod WritesTwice
pub mod Values
