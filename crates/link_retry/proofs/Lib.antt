pub mod Callers
pub mod Frames
pub mod Gaps
pub mod Holding
pub mod InOrder
pub mod Keeping
pub mod Moving
pub mod Receiving
