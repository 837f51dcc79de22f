pub mod Judged
pub mod StepEnds
