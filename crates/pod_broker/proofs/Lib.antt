pub mod Isolation
pub mod Ranges
pub mod Worked
pub mod Closing
pub mod Ended
