pub mod Lanes
pub mod Sittings
pub mod Pairs
pub mod Examples
