pub mod Hears
pub mod Released
pub mod Turns
pub mod Silent
