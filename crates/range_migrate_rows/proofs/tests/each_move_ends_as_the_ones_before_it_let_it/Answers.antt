use Rattle.range_migrate.proofs.Callers.{reached-first}
use Rattle.range_migrate_rows.proofs.tests.each_move_ends_as_the_ones_before_it_let_it.Goals as goal

pub first_other-requires : goal.first_other-requires
first_other-requires g c = record {
  reached = reached-first _ _ c.in_ok-table.table c.in_ok-pools.pools.items c.in_ok-table.ensures.empty c.in_ok-table.ensures.table c.in_ok-pools.ensures;
}
