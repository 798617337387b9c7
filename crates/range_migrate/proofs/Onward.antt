-- From one list of migrates to the next.
use Rattle.std.proofs.Common.{◌≡◌, ℕ, ◌<◌, List, [], ◌∷◌, length, map, Option, Some, None, Result, Ok, Err, refl, sym, ap, ◌∙◌, subst}
use Rattle.mind_base.specs.Range.{RangeView}
use Rattle.mind_base.specs.declared.commands.Outcome.{Outcome}
use Rattle.mind_base.specs.declared.plans.MemoryPlan.{MemoryPlan}
use Rattle.range_translate.specs.Table.{TableView, IsTable}
use Rattle.range_translate.specs.declared.outliers.Outlier.{Outlier}
use Rattle.spare_pool.specs.Pool.{PoolView, all_free}
use Rattle.range_migrate.specs.Run.{ArePools}
use Rattle.range_migrate.specs.Plan.{Plans, Takes}
use Rattle.range_migrate.specs.Ending.{IsUnderWay, Frees, outliers_after, table_after}
use Rattle.range_migrate.specs.Migrates.{Migrate, Reached, AreReached, Ended, table_with}
use Rattle.range_migrate.specs.declared.moves.Move.{Move}
use Rattle.range_migrate.proofs.Nested.{IsBlock}
use Rattle.range_migrate.proofs.Kept.{always}

all_free-pages : (homes : List MemoryPlan) → ArePools homes (map (λ m. all_free m.spare) homes)
all_free-pages [] = refl
all_free-pages (m ∷ homes) = ap (λ (ns : List ℕ). m.spare ∷ ns) (all_free-pages homes)

-- there is one pool for each memory blade
pub pools-reached : (homes : List MemoryPlan) (slots : ℕ) (migrates : List Migrate) (outliers : List Outlier) (pools : List PoolView) → Reached homes slots migrates outliers pools → ArePools homes pools
pools-reached homes slots [] outliers pools r = subst (ArePools homes) (sym r.2) (all_free-pages homes)
pools-reached homes slots (migrate ∷ earlier) outliers pools r = r.3.one_each

-- one migrate more, however it was answered
next : (table : TableView) (pools between new_pools : List PoolView) (new_outliers : List Outlier) (range : RangeView) (memory : ℕ) (result : Result Move Outcome) (migrates : List Migrate) →
    Reached table.homes table.slots migrates table.outliers pools → IsBlock range → memory < length table.homes → Plans table pools range memory result → Takes pools result between →
    Ended table.homes result table.outliers between new_outliers new_pools → ArePools table.homes new_pools → IsTable (table_with table.homes table.slots new_outliers) →
    Reached table.homes table.slots (record { range = range; memory = memory; result = result } ∷ migrates) new_outliers new_pools
next table pools between new_pools new_outliers range memory result migrates r block there planned taken ended one_each is =
    (table.outliers, pools, r, record { block = block; there = there; planned = planned; between = between; taken = taken; ended = ended; one_each = one_each; table = is })

-- a migrate that was accepted, and one that was refused
pub accepted-next : (table new_table : TableView) (pools between new_pools : List PoolView) (range : RangeView) (memory : ℕ) (move : Move) (migrates : List Migrate) →
    Reached table.homes table.slots migrates table.outliers pools → IsBlock range → memory < length table.homes → Plans table pools range memory (Ok move) → Takes pools (Ok move) between →
    new_table ≡ table_after move table → Frees table.homes move.range table.outliers between new_pools → ArePools table.homes new_pools → IsTable new_table →
    Reached new_table.homes new_table.slots (record { range = range; memory = memory; result = Ok move } ∷ migrates) new_table.outliers new_pools
accepted-next table new_table pools between new_pools range memory move migrates r block there planned taken e frees one_each is =
    subst (λ (t : TableView). Reached t.homes t.slots (record { range = range; memory = memory; result = Ok move } ∷ migrates) t.outliers new_pools) (sym e)
    (next table pools between new_pools (outliers_after table.homes move move.run table.outliers) range memory (Ok move) migrates r block there planned taken (refl, frees) one_each (subst IsTable e is))

pub refused-next : (table : TableView) (pools new_pools : List PoolView) (range : RangeView) (memory : ℕ) (outcome : Outcome) (migrates : List Migrate) →
    Reached table.homes table.slots migrates table.outliers pools → IsBlock range → memory < length table.homes → Plans table pools range memory (Err outcome) → Takes pools (Err outcome) new_pools →
    ArePools table.homes new_pools → Reached table.homes table.slots (record { range = range; memory = memory; result = Err outcome } ∷ migrates) table.outliers new_pools
refused-next table pools new_pools range memory outcome migrates r block there planned taken one_each =
    next table pools new_pools new_pools table.outliers range memory (Err outcome) migrates r block there planned taken (refl, refl) one_each (always table.homes table.slots migrates table.outliers pools r).table

-- a move stays under way while its pages are copied
pub under_way-copied : (table : TableView) (pools : List PoolView) (move : Move) (n : ℕ) → IsUnderWay table pools move → IsUnderWay table pools (record move { next = n })
under_way-copied table pools move n w = record { one_each = w.one_each; there = w.there; placed = w.placed; run = w.run; runs = w.runs; own = w.own; slot = w.slot }

-- and its end does not ask how many were copied
after-copied : (homes : List MemoryPlan) (move : Move) (n : ℕ) (run : Option ℕ) (outliers : List Outlier) → outliers_after homes (record move { next = n }) run outliers ≡ outliers_after homes move run outliers
after-copied homes move n None outliers = refl
after-copied homes move n (Some first) outliers = refl

pub table-copied : (table : TableView) (move copied : Move) (n : ℕ) → copied ≡ record move { next = n } → table_after copied table ≡ table_after move table
table-copied table move copied n e =
    ap (λ (m : Move). table_after m table) e
    ∙ ap (λ (os : List Outlier). let t : TableView = record { homes = table.homes; slots = table.slots; outliers = os } in t) (after-copied table.homes move n move.run table.outliers)

-- a table without outliers, and pools that are all free, stand at the start
pub reached-first : (homes : List MemoryPlan) (slots : ℕ) (table : TableView) (pools : List PoolView) → table ≡ record { homes = homes; slots = slots; outliers = [] } → IsTable table →
    pools ≡ map (λ m. all_free m.spare) homes → AreReached table pools
reached-first homes slots table pools e is free = subst (λ (t : TableView). IsTable t → AreReached t pools) (sym e) (λ i. ([], (i, refl, free))) is
