pub mod Replaced
pub mod Schedules
pub mod Stepped
pub mod Kept
pub mod Continuing
pub mod Turns
pub mod Endings
