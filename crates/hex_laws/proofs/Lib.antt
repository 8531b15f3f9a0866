pub mod CellsKept
pub mod NamedOnce
pub mod BytesLaid
pub mod OneBlock
pub mod SheetMade
pub mod Ends
pub mod Theorem
