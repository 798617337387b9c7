-- What the proofs of other crates may cite.
pub use Rattle.coherence.proofs.BladeMoves.{single_writer}
pub use Rattle.coherence.proofs.Changes.{by-test}
pub use Rattle.coherence.proofs.Keys.{at_number, both-cases, put-here, put-other, put_both-other}
pub use Rattle.coherence.proofs.Lists.{downs-cons, total-cons, total-none_is}
pub use Rattle.coherence.proofs.Telling.{IsAlike, alike-back, entries_in, first_page-in, held_in, lawful_append, lawful_at_point, lawful_in, lawful_when_coherent, state-found, tells-between, tells-from, tells_nothing, tells_then}
pub use Rattle.coherence.proofs.TellingEnds.{IsAmongSet, SetsTo, sets_told}
pub use Rattle.coherence.proofs.TellingNotes.{AreOfBlock, alike-same, entries-put, gone_told, region_told, writable_of}
pub use Rattle.coherence.proofs.Whole.{run_keeps, starts}
