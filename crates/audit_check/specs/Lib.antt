pub mod Lines
pub mod Reported
pub mod Actors
pub mod Reading
pub mod Trail
pub mod Traced
pub mod Pass
pub mod Checked
