pub mod Looking
pub mod Told
