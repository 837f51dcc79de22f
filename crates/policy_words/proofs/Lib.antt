pub mod ExplainEnds
pub mod Tellings
