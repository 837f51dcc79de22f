pub mod Calls
pub mod Devices
pub mod Errnos
pub mod Memory
pub mod Names
pub mod Signals
pub mod Wire
