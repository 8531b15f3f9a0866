pub mod Notes
pub mod BeforeIdent
pub mod Values
