pub mod HexTexts
pub mod Captures
pub mod Trials
