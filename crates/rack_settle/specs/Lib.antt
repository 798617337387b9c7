pub mod Labels
pub mod Numbered
pub mod Prompt
pub mod Ran
pub mod Settled
pub mod Stretches
pub mod Turns
pub mod Weight
