pub mod Callers
pub mod Chains
pub mod Checkables
pub mod Made
