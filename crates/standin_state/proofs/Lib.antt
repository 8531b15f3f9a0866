pub mod Handed
pub mod Lending
