pub mod Changes
pub mod Replies
pub mod Copying
pub mod UpTo
pub mod Theorem
pub mod Values
