pub mod Inputs
pub mod Journals
pub mod Judged
pub mod Loading
pub mod Refusal
pub mod Texts
pub mod Words
