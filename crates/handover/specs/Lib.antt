pub mod Ledgers
pub mod Handing
pub mod Keeping
pub mod Replacing
