-- What a memory blade does, as moves of the coherence.
pub mod Acts
pub mod Handed
