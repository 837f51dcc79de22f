pub mod Handing
pub mod Passes
