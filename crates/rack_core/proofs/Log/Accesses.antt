-- An access is noted where its page is held.
pub mod Blades
pub mod Events
pub mod Finds
pub mod Logs
pub mod Messages
