pub mod WholeFrames
pub mod Trials
pub mod StepRuns
