-- A table of places.
use Rattle.std.specs.Prelude.{ℕ, ◌<◌, ◌≤◌, ◌^◌, List, length, All}
use Rattle.mind_base.specs.Range.{IsRange}
use Rattle.mind_base.specs.Fit.{AreApart, all_homes}
use Rattle.mind_base.specs.declared.plans.MemoryPlan.{MemoryPlan}
use Rattle.range_translate.specs.Order.{IsOrdered}
use Rattle.range_translate.specs.Place.{FitsOutlier}
use Rattle.range_translate.specs.declared.outliers.Outlier.{Outlier}

-- the memory blades with their homes, how many outliers there may be, and the outliers in order
pub record TableView : Type 0 where
  pub homes : List MemoryPlan
  pub slots : ℕ
  pub outliers : List Outlier

pub record IsTable (table : TableView) : Type 0 where
  pub apart : AreApart (all_homes table.homes)
  pub few : length table.homes ≤ 8
  pub spare : All (λ m. m.spare ≤ 4096) table.homes
  pub blocks : All (λ o. IsRange o.range.domain o.range.base o.range.log) table.outliers
  pub ordered : IsOrdered table.outliers
  pub limit : table.slots < 2 ^ 32
  pub within : length table.outliers ≤ table.slots
  pub fits : All FitsOutlier table.outliers
