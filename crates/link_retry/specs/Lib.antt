pub mod Kept
pub mod Link
pub mod Run
pub mod SelectiveRepeat
pub mod Window
pub mod Wire
