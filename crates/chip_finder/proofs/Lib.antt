pub mod Geometry
pub mod Known
pub mod Parts
pub mod Places
pub mod Spots
pub mod ThereAndBack
pub mod Held
