pub mod GeneratedPolicy
pub mod GeneratedScript
