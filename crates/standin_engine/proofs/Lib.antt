pub mod Begun
pub mod Lengths
pub mod Receives
pub mod Stays
