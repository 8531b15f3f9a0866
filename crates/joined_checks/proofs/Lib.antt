pub mod Judged
pub mod Starting
pub mod Waiting
