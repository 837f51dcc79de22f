pub mod Given
pub mod Held
pub mod Outcomes
pub mod Buffers
