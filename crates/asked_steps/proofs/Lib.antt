pub mod Asked
pub mod Kept
pub mod Stepping
pub mod Unclosed
