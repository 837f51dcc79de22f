pub mod Stacks
pub mod Zeros
pub mod Steps
pub mod Following
pub mod Moments
pub mod Answering
