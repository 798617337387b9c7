use Rattle.std.proofs.Common.{◌≡◌, drop}
use Rattle.tso_machine.specs.Commands.{is_buffered}
use Rattle.tso_machine.proofs.changes.is_buffered.Given as goal

abbrev pub invariant-loop-i : goal.invariant-loop-i
invariant-loop-i l = is_buffered l.span l.threads l.harts ≡ is_buffered l.span (drop l.i l.threads) (drop l.i l.harts)
