use Rattle.std.proofs.Common.{◌≡◌, ◌++◌}
use Rattle.rack_gen.specs.Wire.{wires_between}
use Rattle.rack_gen.proofs.wires.push_wires.Given as goal

abbrev pub invariant-loop-number : goal.invariant-loop-number
invariant-loop-number l = l.wires.items ≡ l.fn.wires.items ++ wires_between l.one l.other l.number
