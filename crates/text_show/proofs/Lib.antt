pub mod Lines
pub mod Marks
pub mod Breaking
pub mod Room
pub mod EntryNamed
