-- What the proofs of other crates may cite.
pub use Rattle.range_translate.proofs.Apart.{AreApart-front, AreApart-rest, pages_of-cons}
pub use Rattle.range_translate.proofs.BlockOrder.{after, before, not_after, ordered-filter, parts_of}
pub use Rattle.range_translate.proofs.HomeSteps.{home_step_value, in_span-has, shifted}
pub use Rattle.range_translate.proofs.OneHome.{at-or-after, from-on, home-below, one-home, place-below, same-page}
pub use Rattle.range_translate.proofs.Smallest.{any_page, has_page, smallest-has}
pub use Rattle.range_translate.proofs.SmallestLaw.{at_home, first_or_rest, in_range-has, moved}
