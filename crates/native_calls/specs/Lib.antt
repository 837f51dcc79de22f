pub mod Copied
pub mod Prepared
pub mod Done
pub mod Stands
