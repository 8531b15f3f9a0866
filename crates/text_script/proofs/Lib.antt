pub mod Says
pub mod FileLines
