-- What waits, and that nothing does where nothing is under way.
pub mod Frames
pub mod GoOn
pub mod Harts
pub mod Messages
pub mod Passes
pub mod Queues
pub mod Quiet
pub mod Runs
pub mod Steps
