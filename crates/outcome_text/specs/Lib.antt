pub mod Outcomes
pub mod Sight
pub mod Tables
