pub mod Kept
pub mod LinkSets
pub mod Net
