-- What the proofs of other crates may cite.
pub use Rattle.report_text.proofs.InForce.{peak-within}
