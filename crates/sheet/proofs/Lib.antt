pub mod Fields
pub mod Accepted
pub mod Entries
pub mod Ranges
pub mod Verdicts
pub mod Marks
