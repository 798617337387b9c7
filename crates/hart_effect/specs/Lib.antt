pub mod Access
pub mod Core
pub mod Deed
pub mod Thread
pub mod Work
