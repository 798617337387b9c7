-- What the proofs of other crates may cite.
pub use Rattle.tso_machine.proofs.LawsRuns.{enabled, renumbered}
pub use Rattle.tso_machine.proofs.Runs.{advance_all-append, labels-none, on_err, take-at, whole-front}
pub use Rattle.tso_machine.proofs.Writing.{stored-is}
