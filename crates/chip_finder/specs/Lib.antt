pub mod Answers
pub mod LentFlashes
pub mod OneFlash
pub mod Held
