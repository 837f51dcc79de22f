pub mod Pods
pub mod Serving
pub mod Examples
