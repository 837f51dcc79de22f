pub mod Called
pub mod Copied
pub mod Reads
pub mod Registers
pub mod Said
pub mod Stood
pub mod Texts
