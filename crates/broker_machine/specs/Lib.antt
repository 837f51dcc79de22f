pub mod Workers
pub mod Serving
