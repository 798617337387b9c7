pub mod MemoryBlade
pub mod Stored
