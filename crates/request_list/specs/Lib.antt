pub mod Requests
pub mod Waiting
