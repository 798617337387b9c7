-- What the proofs of other crates may cite: truth values, lists, ranges, bytes of stores.
pub use Rattle.std.proofs.lemmas.Bool.{and_parts, and_from, or_parts, not-true, not-false}
pub use Rattle.mind_base.proofs.Truth.{some-is}
pub use Rattle.mind_base.proofs.Lists.{all-append, all-last, all-parts, range-one_more, slice_get-set, slice_get-set_other}
pub use Rattle.mind_base.proofs.Tests.{in_span-true, in_span-has, in_range-true, in_range-has, all_below-zero, all_below-at, all_below-more, all_below-fails}
pub use Rattle.mind_base.proofs.SameRange.{range_by_parts, same_range-refl, same_range-true, same_range-flip, same_range-laws}
pub use Rattle.mind_base.proofs.StoredBytes.{end_inside, size_le_4, get_or-to_le_bytes}
pub use Rattle.mind_base.proofs.Blocks.{up_to_nine}
