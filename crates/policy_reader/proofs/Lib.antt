pub mod Cuts
pub mod Items
pub mod Keeping
pub mod KeptPolicies
pub mod KeptRules
pub mod KeptSettings
pub mod LxdLists
pub mod NameSets
pub mod Tables
pub mod Wholes
mod WorkedPolicies
