pub mod Able
pub mod Looks
