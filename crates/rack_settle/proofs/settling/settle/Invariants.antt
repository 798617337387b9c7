use Rattle.rack_settle.specs.Settled.{HasTurned}
use Rattle.rack_settle.specs.Turns.{turns_left}
use Rattle.rack_settle.proofs.settling.settle.Given as goal

abbrev pub invariant-loop-turn : goal.invariant-loop-turn
invariant-loop-turn l = HasTurned l.images l.fn.rack l.rack l.fn.log.notes l.log.notes

abbrev pub decreases-loop-turn : goal.decreases-loop-turn
decreases-loop-turn l = turns_left l.rack
