pub mod Alike
pub mod Found
pub mod Judged
pub mod Lines
pub mod Looked
pub mod Own
pub mod Passed
