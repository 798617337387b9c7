pub mod Counts
pub mod Facts
pub mod Held
pub mod Lawful
pub mod Moves
pub mod Runs
pub mod World
