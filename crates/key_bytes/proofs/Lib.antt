pub mod Numbers
pub mod Ending
