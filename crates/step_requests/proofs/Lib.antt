pub mod OperandFaults
pub mod Structures
pub mod Acts
pub mod Alone
pub mod FirstTask
pub mod TaskNames
mod WorkedLines
