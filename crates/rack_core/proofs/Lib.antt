pub mod Callers
pub mod Events
pub mod Functions
pub mod Lists
pub mod Log
pub mod Machine
pub mod Moves
pub mod Waits
