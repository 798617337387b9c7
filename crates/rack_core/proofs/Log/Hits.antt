-- Hits are of pages that were given up or lowered.
pub mod Blades
pub mod Rack
pub mod Switch
