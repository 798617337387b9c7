pub mod Calls
pub mod Control
pub mod Outcome
