pub mod Callers
pub mod Fields
pub mod GranuleSteps
pub mod Images
pub mod KindLaws
pub mod Messages
pub mod Parts
