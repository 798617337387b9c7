pub mod Callers
pub mod Counting
pub mod Finding
pub mod Halving
pub mod Kept
pub mod Tables
pub mod Uniform
