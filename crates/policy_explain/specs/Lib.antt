pub mod Missed
pub mod Words
pub mod Asked
pub mod Reasons
pub mod Blocks
pub mod Laws
