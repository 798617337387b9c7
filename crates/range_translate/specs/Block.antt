-- Blocks of pages beside one another.
use Rattle.std.specs.Prelude.{◌+◌, ◌^◌, Bool, ◌&&◌, ◌||◌, ◌==◌, nat_lt, nat_le}
use Rattle.mind_base.specs.Range.{RangeView}

-- all pages of the first block are pages of the second one
abbrev pub block_lies_inside : RangeView → RangeView → Bool
block_lies_inside inner outer = inner.domain == outer.domain && nat_le outer.base inner.base && nat_le (inner.base + 2 ^ inner.log) (outer.base + 2 ^ outer.log)

-- the first block is larger than the second one, and has all its pages
abbrev pub encloses : RangeView → RangeView → Bool
encloses outer inner = block_lies_inside inner outer && nat_lt inner.log outer.log

-- the first block comes before the second one, by domain, first page and size
abbrev pub comes_before : RangeView → RangeView → Bool
comes_before a b = nat_lt a.domain b.domain || (a.domain == b.domain && (nat_lt a.base b.base || (a.base == b.base && nat_lt a.log b.log)))
