-- What the nodes do, as moves of the coherence.
pub mod Blade
pub mod Memory
pub mod NewestImages
pub mod Runs
pub mod Sent
pub mod Switch
