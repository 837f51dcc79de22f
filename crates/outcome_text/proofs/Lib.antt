pub mod Seen
pub mod Idle
pub mod SessionDeeds
pub mod Lines
pub mod NamePlaces
