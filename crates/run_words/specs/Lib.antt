pub mod Pairs
pub mod PodText
pub mod Pods
pub mod Runs
