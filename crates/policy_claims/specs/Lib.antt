pub mod Claims
pub mod Standings
pub mod Told
