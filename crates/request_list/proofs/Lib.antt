pub mod Callers
pub mod FetchedPages
pub mod RequestFacts
