use Rattle.compute_blade_rows.specs.Ready.{IsReady}
use Rattle.compute_blade_rows.proofs.tests.Bench.first_other.Given as goal

abbrev pub invariant-loop-i : goal.invariant-loop-i
invariant-loop-i l = IsReady l.self.blade l.self.images.items
