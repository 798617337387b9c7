pub mod Callers
pub mod CommandLines
pub mod FirstMoves
pub mod InForce
pub mod Keeping
pub mod Lines
pub mod Peaks
pub mod Tallies
