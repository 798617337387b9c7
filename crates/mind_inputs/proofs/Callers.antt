-- What the proofs of other crates may cite.
pub use Rattle.mind_inputs.proofs.Chains.{judges-judge, judges-made, one-is}
pub use Rattle.mind_inputs.proofs.Checkables.{one-check, only}
pub use Rattle.mind_inputs.proofs.Made.{judged-made, seen-whole}
