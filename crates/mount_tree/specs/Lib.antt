pub mod Keys
pub mod Chains
pub mod Places
pub mod Changes
pub mod Looks
pub mod Stacks
pub mod Written
