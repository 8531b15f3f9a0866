pub mod Programmed
pub mod HexText
