pub mod Heard
pub mod Ledgers
pub mod Data
pub mod Notes
pub mod Successors
