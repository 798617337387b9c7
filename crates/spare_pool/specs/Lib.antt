pub mod Marks
pub mod Pool
