use Rattle.std.specs.Prelude.{take}
use Rattle.rack_core.specs.Calls.{Notes}
use Rattle.rack_settle.specs.Ran.{HasRun}
use Rattle.rack_settle.proofs.running.run_all.Given as goal

abbrev pub invariant-loop-i : goal.invariant-loop-i
invariant-loop-i l = Notes (HasRun l.images (take l.i l.events) l.fn.rack l.rack) l.fn.log.notes l.log.notes
