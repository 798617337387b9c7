-- How aligned blocks of pages lie to each other.
use Rattle.std.specs.Prelude.{ℕ, ◌+◌, ◌-◌, ◌%◌, ◌^◌, Bool, ◌&&◌, ◌||◌, ◌==◌, nat_lt, not}
use Rattle.mind_base.specs.Page.{PageView}
use Rattle.mind_base.specs.Range.{RangeView, InRange}

-- no page is in both blocks
abbrev pub AreBlocksApart : RangeView → RangeView → Type 0
AreBlocksApart a b = (page : PageView) → InRange a page → InRange b page → ⊥

-- the order of blocks: by domain, and within a domain by first page
abbrev pub is_before : RangeView → RangeView → Bool
is_before a b = nat_lt a.domain b.domain || (a.domain == b.domain && nat_lt a.base b.base)

-- the test whether no page is in both blocks
abbrev pub are_apart : RangeView → RangeView → Bool
are_apart a b = not (a.domain == b.domain && (nat_lt a.base (b.base + 2 ^ b.log) && nat_lt b.base (a.base + 2 ^ a.log)))

-- the aligned block of 2 ^ log pages that has the page
abbrev pub block_of : PageView → ℕ → RangeView
block_of page log = record { domain = page.domain; base = page.number - page.number % 2 ^ log; log = log }
