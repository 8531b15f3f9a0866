pub mod EmittedInto
pub mod Outcomes
