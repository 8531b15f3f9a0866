pub mod Given
pub mod TakenLines
pub mod Outside
