pub mod Codes
pub mod Inputs
pub mod Printed
pub mod Refusals
