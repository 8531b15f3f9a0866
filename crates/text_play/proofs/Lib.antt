pub mod FreshChip
pub mod Outcome
