pub mod Passes
pub mod Seen
pub mod Newest
pub mod Closing
