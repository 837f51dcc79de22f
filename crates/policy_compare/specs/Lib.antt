pub mod Answers
pub mod Compared
pub mod Lines
pub mod Notified
pub mod Order
