pub mod Keeping
pub mod Scheduling
pub mod Hands
pub mod Endings
pub mod Replacing
