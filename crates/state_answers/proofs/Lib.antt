pub mod AbleTasks
pub mod Held
pub mod Parents
pub mod Waits
