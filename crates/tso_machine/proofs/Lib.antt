mod LawsCommands
mod LawsDeeds
mod LawsExecuted
mod LawsLists
mod LawsSeen
mod LawsSteps
pub mod Callers
pub mod Carrying
pub mod Commanding
pub mod Counting
pub mod Laws
pub mod LawsFences
pub mod LawsOrder
pub mod LawsOwnStores
pub mod LawsRuns
pub mod LawsSources
pub mod Marking
pub mod RowLemmas
pub mod Runs
pub mod Starts
pub mod Threads
pub mod Waiting
pub mod Writing
