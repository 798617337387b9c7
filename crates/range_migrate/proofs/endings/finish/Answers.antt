use Rattle.std.proofs.Common.{◌∙◌, subst}
use Rattle.range_migrate.specs.Ending.{Frees}
use Rattle.range_migrate.specs.declared.moves.Move.{Move}
use Rattle.range_migrate.proofs.Onward.{accepted-next, table-copied}
use Rattle.range_migrate.proofs.endings.finish.Goals as goal

pub returns-clause-reached : goal.returns-clause-reached
returns-clause-reached c = λ migrates range memory planned is same.
    let table = c.args.table.now in
    let between = c.args.pools.now.items in
    let new_pools = c.end_move.new.pools.items in
    let frees : Frees table.homes planned.range table.outliers between new_pools = subst (λ (m : Move). Frees table.homes m.range table.outliers between new_pools) same c.end_move.ensures.freed in
    accepted-next table c.end_move.new.table is.before between new_pools range memory planned migrates is.reached is.block is.there is.planned is.taken
    (c.end_move.ensures.table ∙ table-copied table planned c.args.step c.args.step.next same) frees c.end_move.ensures.pools c.end_move.ensures.valid
