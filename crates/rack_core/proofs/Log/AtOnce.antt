-- What happens in the very event that asks for it.
pub mod AtHand
pub mod Events
pub mod Finds
pub mod Steps
