-- The blocks in force as an ordered set keeps them.
use Rattle.std.specs.Prelude.{◌≡◌, ℕ, Bool, false, List, length}
use Rattle.std.specs.List.{IsDistinct}
use Rattle.std.specs.BTreeSet.{BTreeSet, contains}
use Rattle.std.specs.Ordering.{nat_cmp, ordering_then}
use Rattle.std.specs.declared.cmp.Ordering.{Ordering}
use Rattle.mind_base.specs.Range.{RangeView, same_range}
use Rattle.report_text.specs.declared.force.BlockKey.{BlockKey}
use Rattle.report_text.specs.Force.{has_block}

-- the key of a block
abbrev pub key_of : RangeView → BlockKey
key_of r = record { domain = r.domain; base = r.base; log = r.log }

-- keys by domain, then by first page, then by size
abbrev pub key_cmp : BlockKey → BlockKey → Ordering
key_cmp a b = ordering_then (nat_cmp a.domain b.domain) (ordering_then (nat_cmp a.base b.base) (nat_cmp a.log b.log))

-- the set has the keys of these blocks, none of which stands twice
pub record HoldsKeys (kept : BTreeSet BlockKey) (blocks : List RangeView) : Type 0 where
  pub same : (r : RangeView) → contains key_cmp kept (key_of r) ≡ has_block r blocks
  pub length : length kept.keys ≡ length blocks
  pub apart : IsDistinct same_range blocks
