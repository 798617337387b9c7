-- Where pages lie.
use Rattle.std.specs.Prelude.{ℕ, ◌+◌, ◌-◌, ◌≤◌, ◌^◌, nat_lt, List, [], ◌∷◌, Option, Some, None, if◌then◌else◌, map, sum, option_map, All, Contains}
use Rattle.mind_base.specs.Page.{PageView}
use Rattle.mind_base.specs.Range.{InRange, in_range}
use Rattle.mind_base.specs.Span.{SpanView}
use Rattle.mind_base.specs.Home.{home_of}
use Rattle.mind_base.specs.declared.plans.MemoryPlan.{MemoryPlan}
use Rattle.range_translate.specs.declared.outliers.Outlier.{Outlier}

-- how many pages these runs have together
abbrev pub pages_of : List SpanView → ℕ
pages_of homes = sum (map (λ span. span.pages) homes)

-- the smaller of an outlier and another one, if there is another
abbrev pub smaller_of : Outlier → Option Outlier → Option Outlier
smaller_of o None = Some o
smaller_of o (Some p) = if nat_lt p.range.log o.range.log then Some p else Some o

-- the smallest of the outliers that have the page
abbrev pub smallest_of : List Outlier → PageView → Option Outlier
smallest_of [] page = None
smallest_of (o ∷ os) page = if in_range o.range page then smaller_of o (smallest_of os page) else smallest_of os page

-- the outlier has the page, and none that has it is smaller
pub record IsSmallest (outliers : List Outlier) (page : PageView) (o : Outlier) : Type 0 where
  pub member : Contains outliers o
  pub has : InRange o.range page
  pub least : All (λ p. InRange p.range page → o.range.log ≤ p.range.log) outliers

-- where an outlier says that one of its pages lies: the memory blade, and the physical number there
abbrev pub place_in_outlier : Outlier → PageView → ℕ × ℕ
place_in_outlier o page = (o.memory, o.first + (page.number - o.range.base))

-- the physical numbers of an outlier's pages stay below 2 ^ 32 - 1
abbrev pub FitsOutlier : Outlier → Type 0
FitsOutlier o = o.first + 2 ^ o.range.log ≤ 4294967295

-- where the smallest outlier that has the page says, if there is one, and else at its home
abbrev pub place_or_home : Option Outlier → PageView → ℕ × ℕ → ℕ × ℕ
place_or_home None page home = home
place_or_home (Some o) page home = place_in_outlier o page

-- the place of a page, as the memory blade and the physical number there; a page without a home has none
abbrev pub physical_place : List MemoryPlan → List Outlier → PageView → Option (ℕ × ℕ)
physical_place memories outliers page = option_map (place_or_home (smallest_of outliers page) page) (home_of memories page)
