pub mod Asking
pub mod Stands
pub mod Steps
