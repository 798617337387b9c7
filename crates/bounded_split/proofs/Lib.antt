pub mod Merging
pub mod Splitting
pub mod StepPoints
pub mod Stepping
pub mod Turning
pub mod Walking
