pub mod Kept
pub mod Zeroing
