use Rattle.std.proofs.Common.{◌≡◌, take}
use Rattle.report_text.specs.Force.{blocks_in_force, peak_within}
use Rattle.report_text.specs.Kept.{HoldsKeys}
use Rattle.report_text.proofs.force.peak_in.Given as goal

abbrev pub invariant-loop-i : goal.invariant-loop-i
invariant-loop-i l = HoldsKeys l.kept (blocks_in_force (take l.i l.log.notes)) × (l.most ≡ peak_within l.log.notes l.i)
