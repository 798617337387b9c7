pub mod Callers
pub mod Codes
pub mod Immediates
pub mod Meaning
pub mod Rows
pub mod Spelled
pub mod Words
