pub mod Callers
pub mod Cuts
pub mod Fitting
pub mod WrittenOut
