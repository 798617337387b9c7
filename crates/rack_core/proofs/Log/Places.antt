-- Notes stand in the events where they may.
pub mod Blades
pub mod Events
pub mod Switch
