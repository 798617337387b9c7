-- Aligned blocks of pages.
use Rattle.std.specs.Prelude.{◌≡◌, ℕ, ◌+◌, ◌-◌, ◌%◌, ◌<◌, ◌≤◌, ◌^◌, Bool, ◌&&◌, nat_lt, nat_le, Option, Some, None, if◌then◌else◌, ◌==◌}
use Rattle.mind_base.specs.Page.{PageView}

-- an aligned block of 2 ^ log pages of one domain, from page number base on
pub record RangeView : Type 0 where
  pub domain : ℕ
  pub base : ℕ
  pub log : ℕ

-- a block of at most 2 ^ 9 pages starts at a multiple of its size, inside its domain
abbrev pub IsRange : ℕ → ℕ → ℕ → Type 0
IsRange domain base log = (domain < 16) × (base < 2 ^ 20) × (log ≤ 9) × (base % 2 ^ log ≡ 0)

-- the page is one of the block's
pub record InRange (range : RangeView) (page : PageView) : Type 0 where
  pub domain : page.domain ≡ range.domain
  pub from : range.base ≤ page.number
  pub below : page.number < range.base + 2 ^ range.log

-- the test whether a page is one of the block's
abbrev pub in_range : RangeView → PageView → Bool
in_range range page = page.domain == range.domain && nat_le range.base page.number && nat_lt page.number (range.base + 2 ^ range.log)

-- the test whether two blocks are one
abbrev pub same_range : RangeView → RangeView → Bool
same_range a b = a.domain == b.domain && a.base == b.base && a.log == b.log

-- the two halves of a block, the lower one first; one page has none
abbrev pub halves_of : RangeView → Option (RangeView × RangeView)
halves_of r = if r.log == 0 then None else Some (
  record { domain = r.domain; base = r.base; log = r.log - 1 },
  record { domain = r.domain; base = r.base + 2 ^ (r.log - 1); log = r.log - 1 },
)

-- the block of twice the size that holds this one; the largest has none
abbrev pub parent_of : RangeView → Option RangeView
parent_of r = if r.log == 9 then None else Some
    (record { domain = r.domain; base = r.base - r.base % 2 ^ (r.log + 1); log = r.log + 1 })
