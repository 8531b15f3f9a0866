pub mod Signs
pub mod Matches
