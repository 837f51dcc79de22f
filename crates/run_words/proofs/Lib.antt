pub mod Containers
pub mod Overlaps
pub mod PodTexts
pub mod Runs
