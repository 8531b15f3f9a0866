pub mod Shows
pub mod Feeding
pub mod Opening
