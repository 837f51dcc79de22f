pub mod Judged
pub mod Answers
pub mod Deeds
pub mod Remembered
pub mod Taking
