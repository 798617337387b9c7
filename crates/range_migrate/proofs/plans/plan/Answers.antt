use Rattle.std.proofs.Common.{◌≡◌, ℕ, ◌+◌, ◌<◌, ◌≤◌, ◌↔◌, List, length, slice_get, IsSomeAnd, sym, ap, ◌∙◌, subst, arith}
use Rattle.mind_base.specs.Range.{RangeView}
use Rattle.spare_pool.specs.Pool.{PoolView, IsPool, InRun}
use Rattle.range_migrate.specs.Run.{ArePools, IsFreeAt}
use Rattle.range_migrate.specs.Plan.{IsFreeRunAt, outside}
use Rattle.range_migrate.specs.Ending.{IsUnderWay}
use Rattle.range_migrate.proofs.Pools.{as_many, run-fits}
use Rattle.range_migrate.proofs.UnderWay.{under_way-home, under_way-run}
use Rattle.range_migrate.proofs.plans.plan.Goals as goal

pub returns-then-not-encloses-clause-ready : goal.returns-then-not-encloses-clause-ready
returns-then-not-encloses-clause-ready c = λ runs.
    subst (IsUnderWay c.args.table.now c.args.pools.now.items) (sym c.begun.ensures)
    (under_way-home c.args.table.now c.args.pools.now.items c.args.range.now c.args.memory c.requires.pools c.requires.there (sym c.are_placed.ensures.placed ∙ c.if-not-are_placed.false) runs)

pub returns-clause-ready : goal.returns-clause-ready
returns-clause-ready c = λ runs.
    let table = c.args.table.now in
    let range = c.args.range.now in
    let memory = c.args.memory in
    let pools = c.args.pools.now.items in
    let new_pools = c.take_run-first.new.pools.items in
    let first = c.take_run-first.result in
    let log : c.range.inside.log ≡ range.log = ap (λ (r : RangeView). r.log) c.range.view_is in
    let same : ArePools table.homes new_pools = c.take_run-first.ensures.pages ∙ c.requires.pools in
    let run : IsFreeRunAt (IsFreeAt pools) memory range.log first = subst (λ l. IsFreeRunAt (IsFreeAt pools) memory l first) log c.take_run-first.ensures.lowest.run in
    let taken : (m page : ℕ) → IsFreeAt new_pools m page ↔ (IsFreeAt pools m page × ((memory ≡ m) × InRun range.log first page → ⊥)) =
    subst (λ l. (m page : ℕ) → IsFreeAt new_pools m page ↔ (IsFreeAt pools m page × ((memory ≡ m) × InRun l first page → ⊥))) log c.take_run-first.ensures.taken in
    let pool : IsSomeAnd (slice_get pools memory) IsPool = subst (λ (ps : List PoolView). IsSomeAnd (slice_get ps memory) IsPool) c.as_slice.ensures.value c.has_run.ensures.pool in
    let inside = run-fits table.homes pools memory range.log first c.requires.pools pool run in
    let before = as_many table.homes pools c.requires.pools in
    let after = as_many table.homes new_pools same in
    let there : memory < length new_pools = omega (arith, before, after, c.requires.there) in
    let slot : length (outside range table.outliers) + 1 ≤ table.slots = omega (arith, c.others.ensures, c.slots.ensures, c.if-others-slots.false) in
    subst (IsUnderWay table new_pools) (sym c.begun-2.ensures)
    (under_way-run table pools new_pools range memory first same there (sym c.are_placed.ensures.placed ∙ c.if-not-are_placed.false) runs run inside slot taken)
