-- What the proofs of other crates may cite.
pub use Rattle.page_cache.proofs.CallerLemmas.{frame_of-first, frame_of-with_change, frame_of-with_first, frame_of-without, length-held, put_of-Fresh, put_of-Pushed, put_of-Replaced, same_page-is_equivalence}
pub use Rattle.page_cache.proofs.Laws.{same_page-refl, same_page-true, without_absent}
