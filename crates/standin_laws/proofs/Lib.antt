pub mod Notes
pub mod EarlyBytes
pub mod BeforeIdent
pub mod Values
