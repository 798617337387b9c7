-- What the proofs of other crates may cite.
pub use Rattle.compute_blade.proofs.Acting.{drain_acts, gives, message_acts, step_acts}
pub use Rattle.compute_blade.proofs.Placing.{own_kept}
pub use Rattle.compute_blade.proofs.Resuming.{woken}
