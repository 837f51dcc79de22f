mod Counted
mod Different
mod Equal
mod Kept
mod Ordered
mod Rules
mod Same
