-- Lists, and what is found in them.
pub mod Lookups
pub mod Parts
pub mod Sums
