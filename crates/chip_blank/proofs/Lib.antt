pub mod Used
pub mod Spots
