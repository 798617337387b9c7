pub mod CallerLemmas
pub mod Callers
pub mod Laws
