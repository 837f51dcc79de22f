pub mod Numbers
pub mod Names
pub mod Words
pub mod Operands
pub mod Requests
pub mod Readings
pub mod Laws
pub mod Turns
