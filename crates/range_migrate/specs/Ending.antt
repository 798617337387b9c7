-- What the end of a move makes of a table and its pools.
use Rattle.std.specs.Prelude.{◌≡◌, ℕ, ◌+◌, ◌%◌, ◌^◌, ◌<◌, ◌≤◌, ◌↔◌, ◌⊎◌, ◌&&◌, List, filter, Option, Some, None, IsSome, length}
use Rattle.mind_base.specs.Page.{PageView}
use Rattle.mind_base.specs.Range.{RangeView, InRange}
use Rattle.mind_base.specs.Home.{home_of}
use Rattle.mind_base.specs.declared.plans.MemoryPlan.{MemoryPlan}
use Rattle.range_translate.specs.Block.{block_lies_inside}
use Rattle.range_translate.specs.Order.{put_in_order}
use Rattle.range_translate.specs.Table.{TableView}
use Rattle.range_translate.specs.declared.outliers.Outlier.{Outlier}
use Rattle.spare_pool.specs.Pool.{PoolView, InRun}
use Rattle.range_migrate.specs.Run.{home_pages, spare_pages, users, has_spare_page, AreRuns, ArePools, IsFreeAt}
use Rattle.range_migrate.specs.Plan.{outside}
use Rattle.range_migrate.specs.declared.moves.Move.{Move}

-- all pages of the block have a home
abbrev pub IsPlaced : List MemoryPlan → RangeView → Type 0
IsPlaced homes range = (page : PageView) → InRange range page → IsSome (home_of homes page)

-- the move's run, if it has one, lies inside the spare pages of its memory blade
abbrev pub FitsSpare : List MemoryPlan → Move → Option ℕ → Type 0
FitsSpare homes move None = Unit {0}
FitsSpare homes move (Some first) = first + 2 ^ move.range.log ≤ spare_pages homes move.memory

-- the outlier of a move with a run
abbrev pub outlier_of : List MemoryPlan → Move → ℕ → Outlier
outlier_of homes move first = record { range = move.range; memory = move.memory; first = home_pages homes move.memory + first }

-- those inside the block are removed, and then that of the move, if it has a run, is entered
abbrev pub outliers_after : List MemoryPlan → Move → Option ℕ → List Outlier → List Outlier
outliers_after homes move None outliers = outside move.range outliers
outliers_after homes move (Some first) outliers = put_in_order (outlier_of homes move first) (outside move.range outliers)

abbrev pub table_after : Move → TableView → TableView
table_after move table = record { homes = table.homes; slots = table.slots; outliers = outliers_after table.homes move move.run table.outliers }

-- how many outliers inside the block have the spare page
abbrev pub pages_given_up : List MemoryPlan → RangeView → List Outlier → ℕ → ℕ → ℕ
pages_given_up homes range outliers memory page = length (filter (λ o. block_lies_inside o.range range && has_spare_page homes memory page o) outliers)

-- the pages of the outliers inside the block become free, and all others stay as they were
abbrev pub Frees : List MemoryPlan → RangeView → List Outlier → List PoolView → List PoolView → Type 0
Frees homes range outliers old new = (memory page : ℕ) → IsFreeAt new memory page ↔ (IsFreeAt old memory page ⊎ (0 < pages_given_up homes range outliers memory page))

-- the move's run, if it has one, starts at a multiple of its size, and none of its pages is free or in another run
abbrev pub OwnsRun : TableView → List PoolView → Move → Option ℕ → Type 0
OwnsRun table pools move None = Unit {0}
OwnsRun table pools move (Some first) =
    (first % 2 ^ move.range.log ≡ 0)
    × ((page : ℕ) → InRun move.range.log first page → (IsFreeAt pools move.memory page → ⊥) × (users table.homes table.outliers move.memory page ≡ 0))

-- where the move has a run, the table has a slot for its outlier
abbrev pub HasSlot : TableView → Move → Option ℕ → Type 0
HasSlot table move None = Unit {0}
HasSlot table move (Some first) = length (outside move.range table.outliers) + 1 ≤ table.slots

-- A move that was planned and has not ended: its block has homes, its run is its own and has a slot, and no spare
-- page has two uses.
pub record IsUnderWay (table : TableView) (pools : List PoolView) (move : Move) : Type 0 where
  pub one_each : ArePools table.homes pools
  pub there : move.memory < length pools
  pub placed : IsPlaced table.homes move.range
  pub run : FitsSpare table.homes move move.run
  pub runs : AreRuns table.homes table.outliers pools
  pub own : OwnsRun table pools move move.run
  pub slot : HasSlot table move move.run
