pub mod Sittings
mod Turns
mod Pairs
mod Worked
