use Rattle.switch_core.proofs.Answering.{Ending, answered_in}
use Rattle.switch_core.proofs.endings.end_each.Given as goal

abbrev pub invariant-ending : goal.invariant-ending
invariant-ending l = Ending l.fn.directory l.directory

abbrev pub decreases-ending : goal.decreases-ending
decreases-ending l = answered_in l.directory.entries
