use Rattle.std.proofs.Common.{◌≡◌, codes, [], drop}
use Rattle.toml.specs.View.{items_view}
use Rattle.rack_file.specs.Keys.{items_judged}
use Rattle.rack_file.specs.Tables.{memory_judged}
use Rattle.rack_file.proofs.homes.memories_of.Given as goal

abbrev pub invariant-loop-value : goal.invariant-loop-value
invariant-loop-value l =
    items_judged memory_judged (codes "memory") l.memories (items_view (drop l.value-index l.values)) ≡ items_judged memory_judged (codes "memory") [] (items_view l.values)
