pub mod Bits
pub mod Boot
