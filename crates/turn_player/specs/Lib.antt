pub mod Turns
pub mod Serving
pub mod Judged
