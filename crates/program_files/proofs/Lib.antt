pub mod Items
pub mod Printing
pub mod Reading
