pub mod Gathered
pub mod Texts
pub mod KeyParts
