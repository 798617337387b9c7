pub mod Blank
pub mod Reading
