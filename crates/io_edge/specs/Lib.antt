pub mod Faults
pub mod FileState
pub mod Named
pub mod Planned
pub mod SinkState
