pub mod CallLemmas
pub mod Fields
pub mod Structures
pub mod Tables
