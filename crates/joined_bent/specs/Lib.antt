pub mod Bent
pub mod Values
