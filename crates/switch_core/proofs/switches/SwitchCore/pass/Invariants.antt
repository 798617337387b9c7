use Rattle.switch_core.specs.Sending.{KeepsStart, start_at}
use Rattle.switch_core.proofs.Rounds.{HasCome}
use Rattle.switch_core.proofs.switches.SwitchCore.pass.Given as goal

abbrev pub invariant-loop-left : goal.invariant-loop-left
invariant-loop-left l =
    HasCome (start_at l.fn.self l.fn.out.items l.fn.log.notes) l.left l.self l.stand l.out.items l.log.notes
    × KeepsStart (start_at l.fn.self l.fn.out.items l.fn.log.notes) l.self l.out.items l.log.notes

abbrev pub decreases-loop-left : goal.decreases-loop-left
decreases-loop-left l = l.left
