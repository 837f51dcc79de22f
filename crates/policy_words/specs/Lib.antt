pub mod Explanations
pub mod Tellings
