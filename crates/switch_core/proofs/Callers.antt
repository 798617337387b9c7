-- What the proofs of other crates may cite.
pub use Rattle.switch_core.proofs.Deeds.{no-deeds, over-deeds, receives-deeds}
pub use Rattle.switch_core.proofs.EachEnding.{answered-is}
pub use Rattle.switch_core.proofs.Going.{enters-is}
pub use Rattle.switch_core.proofs.Kept.{IsHeard, IsKeptByDeeds, deeds-kept, ends-kept, handled-heard, receives-kept}
pub use Rattle.switch_core.proofs.Lists.{all-append, all-at, all-filter, all-insert, all-remove, insert-at, waiting-fetching, waiting-filter, waiting-without}
