mod Complete
mod Extending
mod Finishing
pub mod Left
pub mod LegalWalks
mod MadeNames
mod ProgramDepths
mod Requests
pub mod Rounds
mod Schedules
mod Turns
pub mod Walks
mod WorkedWalks
