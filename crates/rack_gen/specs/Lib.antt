pub mod Draw
pub mod Generator
pub mod Line
pub mod Wire
