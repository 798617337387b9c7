use Rattle.std.proofs.Common.{◌≡◌, ℕ, ◌↔◌, ◌⊎◌, List, sym, ap, subst}
use Rattle.range_translate.specs.Table.{TableView}
use Rattle.range_translate.specs.declared.outliers.Outlier.{Outlier}
use Rattle.spare_pool.specs.Pool.{InRun}
use Rattle.range_migrate.specs.Run.{FitsRun, AreRuns, IsFreeAt}
use Rattle.range_migrate.proofs.Removing.{CanGive, FreedBy, all-at, can-give, freed-by, runs-left, without}
use Rattle.range_migrate.proofs.endings.remove_one.Goals as goal

pub first_of-first-requires : goal.first_of-first-requires
first_of-first-requires c = all-at (FitsRun c.args.table.now.homes) c.args.table.now.outliers c.args.outlier.now c.requires.runs.runs c.requires.there

pub give_run-requires : goal.give_run-requires
give_run-requires c =
    let o = c.args.outlier.now in
    let table = c.args.table.now in
    let can = can-give table.homes c.args.pools.now.items table.outliers o c.first_of-first.result c.requires.pools c.first_of-first.ensures.table.ordered c.requires.there c.requires.runs c.first_of-first.ensures.first in
    let given : CanGive c.args.pools.now.items c.outlier.inside.0.1.0 c.first_of-first.result c.outlier.inside.0.0.log = subst (λ (p : Outlier). CanGive c.args.pools.now.items p.memory c.first_of-first.result p.range.log) (sym c.outlier.view_is) can in
    record { log = c.outlier.invariant.2; there = given.there; aligned = given.aligned; inside = given.inside; taken = given.taken }

pub returns-clause-freed : goal.returns-clause-freed
returns-clause-freed c =
    let o = c.args.outlier.now in
    let pools = c.args.pools.now.items in
    let new_pools = c.give_run.new.pools.items in
    freed-by c.args.table.now.homes o pools new_pools c.first_of-first.result c.first_of-first.ensures.first
    (subst (λ (p : Outlier). (m page : ℕ) → IsFreeAt new_pools m page ↔ (IsFreeAt pools m page ⊎ ((p.memory ≡ m) × InRun p.range.log c.first_of-first.result page))) c.outlier.view_is c.give_run.ensures.given)

pub returns-clause-runs : goal.returns-clause-runs
returns-clause-runs c =
    let o = c.args.outlier.now in
    let table = c.args.table.now in
    let pools = c.args.pools.now.items in
    let new_pools = c.give_run.new.pools.items in
    let freed : FreedBy table.homes o pools new_pools = freed-by table.homes o pools new_pools c.first_of-first.result c.first_of-first.ensures.first
    (subst (λ (p : Outlier). (m page : ℕ) → IsFreeAt new_pools m page ↔ (IsFreeAt pools m page ⊎ ((p.memory ≡ m) × InRun p.range.log c.first_of-first.result page))) c.outlier.view_is c.give_run.ensures.given) in
    let left : c.remove.new.self.outliers ≡ without o.range table.outliers = ap (λ (t : TableView). t.outliers) c.remove.ensures.left in
    subst (λ (os : List Outlier). AreRuns table.homes os new_pools) (sym left)
    (runs-left table.homes o table.outliers pools new_pools c.first_of-first.ensures.table.ordered c.requires.there c.requires.runs freed)
