pub mod Block
pub mod BlockCode
pub mod Protect
