pub mod CopyCases
pub mod Decided
pub mod FilterCases
pub mod Fitting
pub mod Look
pub mod MappedBytes
pub mod Pieces
pub mod Scans
mod WalkedPaths
mod PlayedCases
pub mod WorkedReports
