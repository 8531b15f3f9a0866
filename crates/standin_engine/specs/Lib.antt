pub mod Answers
pub mod View
pub mod Change
pub mod Stands
