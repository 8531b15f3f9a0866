pub mod Serving
pub mod Log
