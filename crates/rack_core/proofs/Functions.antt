-- The functions of the code meet their definitions.
pub mod Blades
pub mod Events
pub mod Hands
pub mod Net
pub mod Starts
pub mod Switch
