-- What the switch does, as moves of the coherence.
pub mod Begins
pub mod Deeds
pub mod Ends
pub mod Enters
pub mod Grants
pub mod Handed
pub mod Hears
pub mod Homes
pub mod Lookups
pub mod May
pub mod Refuses
pub mod Requests
pub mod Sets
pub mod Sound
pub mod Worlds
