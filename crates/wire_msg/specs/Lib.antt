pub mod Reading
pub mod Spelling
pub mod WellFormed
pub mod Writing
