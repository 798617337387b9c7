-- What notes tell is held and in force.
pub mod BladeNotes
pub mod Blades
pub mod Rack
pub mod Switch
pub mod SwitchEffects
pub mod SwitchNotes
