pub mod Judgements
pub mod Plays
pub mod Stepping
