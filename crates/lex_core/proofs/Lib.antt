pub mod Readings
pub mod Splits
pub mod Values
pub mod Classes
pub mod Derivations
mod WorkedLines
