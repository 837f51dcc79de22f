pub mod Circle
pub mod Examples
pub mod Explored
pub mod Laws
pub mod Schedules
