pub mod Parts
pub mod Noting
pub mod Texts
pub mod Values
pub mod Fitting
pub mod Written
