pub mod Callers
pub mod LineCuts
pub mod Places
pub mod Reading
