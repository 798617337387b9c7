pub mod Epoch
pub mod Hot
pub mod Policy
pub mod Steps
pub mod Threshold
pub mod Turns
pub mod Verdict
