pub mod HexTexts
pub mod Captures
