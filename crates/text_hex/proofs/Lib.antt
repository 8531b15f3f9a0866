pub mod NamedBlocks
pub mod Refusals
pub mod Outcomes
