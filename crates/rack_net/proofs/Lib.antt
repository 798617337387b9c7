pub mod Callers
pub mod Carrying
pub mod Finding
pub mod Naming
pub mod Noting
pub mod Putting
pub mod Texts
