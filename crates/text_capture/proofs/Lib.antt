pub mod Hearing
pub mod Judging
pub mod Telling
pub mod Outcomes
