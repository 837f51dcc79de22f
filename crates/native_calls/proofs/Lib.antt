pub mod Pieces
pub mod Peeks
pub mod Requested
pub mod Runs
pub mod Stand
