-- What the proofs of other crates may cite.
pub use Rattle.journal_text.proofs.Judgements.{one}
