pub mod Readings
pub mod Operands
pub mod Requests
pub mod Calls
pub mod Laws
