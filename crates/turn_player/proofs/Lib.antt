pub mod Times
pub mod Servers
pub mod Lines
pub mod TurnedKept
pub mod Scheduled
pub mod Judging
pub mod JudgedLines
pub mod Judgements
