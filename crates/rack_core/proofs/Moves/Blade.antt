-- What a compute blade does, as moves of the coherence.
pub mod Acts
pub mod Answered
pub mod Calls
pub mod Deeds
pub mod Delivers
pub mod Fills
pub mod Handed
pub mod Hears
pub mod Resuming
pub mod Seen
pub mod Sound
pub mod Starts
pub mod Steps
pub mod Still
pub mod Waits
pub mod Worlds
