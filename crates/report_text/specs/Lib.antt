pub mod CommandLine
pub mod Counts
pub mod Digits
pub mod Force
pub mod InForce
pub mod Kept
pub mod Report
pub mod ThreadLine
