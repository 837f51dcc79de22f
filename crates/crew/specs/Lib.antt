pub mod Duties
pub mod Errands
pub mod Locks
pub mod Beside
