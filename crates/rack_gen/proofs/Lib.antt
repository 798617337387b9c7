pub mod Callers
pub mod Drawing
pub mod Fitting
pub mod Made
pub mod Numerals
pub mod Reading
pub mod Spacing
pub mod WireLists
