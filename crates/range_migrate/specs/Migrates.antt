-- Lists of migrates: each is planned, copied to the end and finished, or refused.
use Rattle.std.specs.Prelude.{◌≡◌, ℕ, ◌<◌, List, [], ◌∷◌, length, map, Result, Ok, Err}
use Rattle.mind_base.specs.Range.{RangeView, IsRange}
use Rattle.mind_base.specs.declared.commands.Outcome.{Outcome}
use Rattle.mind_base.specs.declared.plans.MemoryPlan.{MemoryPlan}
use Rattle.range_translate.specs.Table.{TableView, IsTable}
use Rattle.range_translate.specs.declared.outliers.Outlier.{Outlier}
use Rattle.spare_pool.specs.Pool.{PoolView, all_free}
use Rattle.range_migrate.specs.Run.{ArePools}
use Rattle.range_migrate.specs.Plan.{Plans, Takes}
use Rattle.range_migrate.specs.Ending.{outliers_after, Frees}
use Rattle.range_migrate.specs.declared.moves.Move.{Move}

-- a block that is to move to a memory blade, and what its plan answered
pub record Migrate : Type 0 where
  pub range : RangeView
  pub memory : ℕ
  pub result : Result Move Outcome

-- the accepted moves among these migrates
abbrev pub accepted_in : Result Move Outcome → List Move → List Move
accepted_in (Ok move) earlier = move ∷ earlier
accepted_in (Err outcome) earlier = earlier

abbrev pub accepted : List Migrate → List Move
accepted [] = []
accepted (migrate ∷ earlier) = accepted_in migrate.result (accepted earlier)

abbrev pub table_with : List MemoryPlan → ℕ → List Outlier → TableView
table_with homes slots outliers = record { homes = homes; slots = slots; outliers = outliers }

-- an accepted move was ended; a refused one has changed nothing
abbrev pub Ended : List MemoryPlan → Result Move Outcome → List Outlier → List PoolView → List Outlier → List PoolView → Type 0
Ended homes (Ok move) outliers pools new_outliers new_pools =
    (new_outliers ≡ outliers_after homes move move.run outliers) × Frees homes move.range outliers pools new_pools
Ended homes (Err outcome) outliers pools new_outliers new_pools = (new_outliers ≡ outliers) × (new_pools ≡ pools)

-- what one migrate makes of outliers and pools
pub record Moves (homes : List MemoryPlan) (slots : ℕ) (migrate : Migrate) (outliers : List Outlier) (pools : List PoolView) (new_outliers : List Outlier) (new_pools : List PoolView) : Type 0 where
  pub block : IsRange migrate.range.domain migrate.range.base migrate.range.log
  pub there : migrate.memory < length homes
  pub planned : Plans (table_with homes slots outliers) pools migrate.range migrate.memory migrate.result
  pub between : List PoolView
  pub taken : Takes pools migrate.result between
  pub ended : Ended homes migrate.result outliers between new_outliers new_pools
  pub one_each : ArePools homes new_pools
  pub table : IsTable (table_with homes slots new_outliers)

-- these outliers and pools can stand after the migrates, of which the latest is first. At the start there is no
-- outlier, and every spare page is free
abbrev pub Reached : List MemoryPlan → ℕ → List Migrate → List Outlier → List PoolView → Type 0
Reached homes slots [] outliers pools =
    IsTable (table_with homes slots outliers) × (outliers ≡ []) × (pools ≡ map (λ m. all_free m.spare) homes)
Reached homes slots (migrate ∷ earlier) outliers pools =
    (old_outliers : List Outlier) × (old_pools : List PoolView)
    × Reached homes slots earlier old_outliers old_pools × Moves homes slots migrate old_outliers old_pools outliers pools

-- a table and pools that can stand after some migrates
abbrev pub AreReached : TableView → List PoolView → Type 0
AreReached table pools = (migrates : List Migrate) × Reached table.homes table.slots migrates table.outliers pools

-- a move was planned after these migrates, of a block to a memory blade: the pools are as the plan left them
pub record IsPlanned (table : TableView) (pools : List PoolView) (migrates : List Migrate) (range : RangeView) (memory : ℕ) (move : Move) : Type 0 where
  pub before : List PoolView
  pub reached : Reached table.homes table.slots migrates table.outliers before
  pub block : IsRange range.domain range.base range.log
  pub there : memory < length table.homes
  pub planned : Plans table before range memory (Ok move)
  pub taken : Takes before (Ok move) pools
