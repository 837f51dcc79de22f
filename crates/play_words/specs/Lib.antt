pub mod Checks
pub mod Findings
pub mod Generated
pub mod Handovers
pub mod Printings
pub mod Printouts
