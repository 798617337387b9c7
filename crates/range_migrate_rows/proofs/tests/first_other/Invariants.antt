use Rattle.range_migrate.specs.Migrates.{AreReached}
use Rattle.range_migrate_rows.proofs.tests.first_other.Given as goal

abbrev pub invariant-loop-i : goal.invariant-loop-i
invariant-loop-i l = AreReached l.table l.pools.items
