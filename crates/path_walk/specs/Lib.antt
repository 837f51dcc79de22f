pub mod Components
pub mod Places
pub mod Turns
pub mod Walks
pub mod Performed
