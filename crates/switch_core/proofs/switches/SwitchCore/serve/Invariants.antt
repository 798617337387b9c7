use Rattle.std.proofs.Common.{◌≡◌, ◌+◌, false, cond}
use Rattle.switch_core.specs.Invariant.{IsSwitch}
use Rattle.switch_core.specs.Sending.{Start, Comes, KeepsStart, start_at}
use Rattle.switch_core.specs.Standing.{left_to_do}
use Rattle.switch_core.specs.Switch.{SwitchEffect}
use Rattle.switch_core.proofs.Rounds.{HasServed}
use Rattle.switch_core.proofs.switches.SwitchCore.serve.Given as goal

abbrev pub invariant-loop-changed : goal.invariant-loop-changed
invariant-loop-changed l =
    ((start : Start) → (first : SwitchEffect) → Comes start first l.fn.self l.fn.out.items l.fn.log.notes → HasServed start first l.changed l.self l.out.items l.log.notes)
    × KeepsStart (start_at l.fn.self l.fn.out.items l.fn.log.notes) l.self l.out.items l.log.notes
    × (l.changed ≡ false → IsSwitch l.self)

abbrev pub decreases-loop-changed : goal.decreases-loop-changed
decreases-loop-changed l = left_to_do l.self + cond l.changed 1 0
