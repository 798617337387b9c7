use Rattle.std.proofs.Common.{◌≡◌, ◌-◌, ◌≤◌, ◌++◌, length}
use Rattle.link_retry.specs.Window.{gaps}
use Rattle.link_retry.proofs.wires.put_unmarked.Given as goal

abbrev pub invariant-loop-number : goal.invariant-loop-number
invariant-loop-number l = (l.wire.items ≡ l.initial.wire.items ++ gaps l.window (l.number - l.window.base)) × (length l.wire.items ≤ 64)
