pub mod Block
pub mod Directory
pub mod Entry
pub mod Merge
pub mod Room
pub mod Side
pub mod Split
