pub mod Options
pub mod Lists
pub mod Totals
pub mod Views
pub mod Steps
pub mod Passes
pub mod Told
