pub mod AskedCalls
pub mod Bits
pub mod Descriptors
pub mod Lines
pub mod Modes
mod WorkedCalls
