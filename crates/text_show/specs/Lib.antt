pub mod Words
pub mod Steps
pub mod Map
pub mod Refused
pub mod Show
