pub mod Callers
pub mod Decimals
pub mod Growth
pub mod Judgements
pub mod Prefix
pub mod Spellings
