pub mod Deeds
pub mod Handling
pub mod Invariant
pub mod Sending
pub mod Serving
pub mod Standing
pub mod Switch
pub mod Treating
