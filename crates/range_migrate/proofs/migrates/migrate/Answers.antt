use Rattle.std.proofs.Common.{◌<◌, ◌∙◌, length, sym, subst, arith}
use Rattle.range_migrate.specs.Ending.{IsUnderWay, Frees}
use Rattle.range_migrate.specs.declared.moves.Move.{Move}
use Rattle.range_migrate.proofs.Kept.{always}
use Rattle.range_migrate.proofs.Onward.{pools-reached, accepted-next, refused-next, under_way-copied, table-copied}
use Rattle.range_migrate.proofs.Pools.{as_many}
use Rattle.range_migrate.proofs.migrates.migrate.Goals as goal

pub plan-requires-clause-pools : goal.plan-requires-clause-pools
plan-requires-clause-pools c =
    let table = c.args.table.now in
    pools-reached table.homes table.slots c.requires.reached.0 table.outliers c.args.pools.now.items c.requires.reached.1

pub copied-requires-clause-placed : goal.copied-requires-clause-placed
copied-requires-clause-placed c =
    let table = c.args.table.now in
    (c.in-Ok.ensures.ready (always table.homes table.slots c.requires.reached.0 table.outliers c.args.pools.now.items c.requires.reached.1).runs).placed

pub copied-requires-clause-run : goal.copied-requires-clause-run
copied-requires-clause-run c =
    let table = c.args.table.now in
    (c.in-Ok.ensures.ready (always table.homes table.slots c.requires.reached.0 table.outliers c.args.pools.now.items c.requires.reached.1).runs).run

pub finish-requires-clause-under_way : goal.finish-requires-clause-under_way
finish-requires-clause-under_way c =
    let table = c.args.table.now in
    let runs = (always table.homes table.slots c.requires.reached.0 table.outliers c.args.pools.now.items c.requires.reached.1).runs in
    subst (IsUnderWay table c.plan.new.pools.items) (sym c.copied.ensures.same) (under_way-copied table c.plan.new.pools.items c.in-Ok.step c.copied.result.next (c.in-Ok.ensures.ready runs))

pub returns-in-Ok-clause-reached : goal.returns-in-Ok-clause-reached
returns-in-Ok-clause-reached c = λ migrates r.
    let table = c.args.table.now in
    let pools = c.args.pools.now.items in
    let between = c.plan.new.pools.items in
    let new_pools = c.finish.new.pools.items in
    let step = c.in-Ok.step in
    let many = as_many table.homes pools (pools-reached table.homes table.slots migrates table.outliers pools r) in
    let there : c.args.memory < length table.homes = omega (arith, many, c.requires.there) in
    let frees : Frees table.homes step.range table.outliers between new_pools = subst (λ (m : Move). Frees table.homes m.range table.outliers between new_pools) c.copied.ensures.same c.finish.ensures.freed in
    accepted-next table c.finish.new.table pools between new_pools c.args.range.now c.args.memory step migrates r c.plan.ensures.block there c.in-Ok.ensures.ends c.in-Ok.ensures.taken
    (c.finish.ensures.table ∙ table-copied table step c.copied.result c.copied.result.next c.copied.ensures.same) frees c.finish.ensures.pools c.finish.ensures.valid

pub returns-in-Err-clause-reached : goal.returns-in-Err-clause-reached
returns-in-Err-clause-reached c = λ migrates r.
    let table = c.args.table.now in
    let pools = c.args.pools.now.items in
    let many = as_many table.homes pools (pools-reached table.homes table.slots migrates table.outliers pools r) in
    let there : c.args.memory < length table.homes = omega (arith, many, c.requires.there) in
    refused-next table pools c.plan.new.pools.items c.args.range.now c.args.memory c.in-Err.outcome migrates r c.plan.ensures.block there c.in-Err.ensures.ends c.in-Err.ensures.taken c.plan.ensures.pools
