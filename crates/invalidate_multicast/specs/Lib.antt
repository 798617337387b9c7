pub mod Blades
pub mod First
pub mod Transition
