pub mod Each
pub mod PolicyText
pub mod ProgramTotals
pub mod KeptRules
mod WorkedInputs
