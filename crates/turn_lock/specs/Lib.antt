pub mod Stages
pub mod Lists
pub mod Facts
pub mod Rule
pub mod Turns
