pub mod Accepted
pub mod Choices
pub mod Outcomes
pub mod Precedence
pub mod Text
pub mod Words
