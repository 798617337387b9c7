pub mod AnswerLemmas
pub mod BladeLemmas
pub mod Callers
pub mod FirstLemmas
pub mod Sets
