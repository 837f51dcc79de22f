pub mod ComesTo
pub mod Explored
