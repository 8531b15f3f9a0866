pub mod OneFlash
