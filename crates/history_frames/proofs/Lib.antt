pub mod Ordinals
pub mod Held
pub mod Groups
pub mod Listed
pub mod Queued
