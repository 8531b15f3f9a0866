pub mod StepLines
pub mod Room
