-- What the proofs of other crates may cite.
pub use Rattle.schedule_text.proofs.Cuts.{no_words}
pub use Rattle.schedule_text.proofs.WrittenOut.{flat_more}
