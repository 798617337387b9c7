use Rattle.std.proofs.Common.{◌≡◌, ◌-◌, ◌++◌}
use Rattle.rack_gen.specs.Generator.{lines_from}
use Rattle.rack_gen.proofs.schedules.draw_lines.Given as goal

abbrev pub invariant-loop : goal.invariant-loop
invariant-loop l =
    l.lines.items ++ lines_from l.threads l.wires.items (l.count - l.counter) l.generator.state ≡ lines_from l.threads l.wires.items l.count l.seed
