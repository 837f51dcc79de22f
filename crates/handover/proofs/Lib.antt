pub mod Fitting
pub mod Told
pub mod Handed
pub mod Newest
pub mod Kept
pub mod Replaced
