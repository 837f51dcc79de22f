pub mod Answered
pub mod Standings
pub mod Findings
pub mod Wholes
