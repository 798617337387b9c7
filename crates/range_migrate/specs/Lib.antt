pub mod Accepted
pub mod Ending
pub mod Migrates
pub mod Plan
pub mod Run
