pub mod Appended
pub mod Decimal
