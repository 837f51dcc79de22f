pub mod Stored
pub mod Lexical
pub mod Steps
pub mod Given
pub mod Lines
pub mod Numbers
pub mod Grammar
