pub mod Blocks
pub mod Callers
pub mod Pages
pub mod Places
pub mod PoolLemmas
