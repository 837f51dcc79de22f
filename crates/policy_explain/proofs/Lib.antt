pub mod Causes
pub mod Deciding
pub mod FlagNames
pub mod Misses
pub mod Places
mod WorkedExplanations
