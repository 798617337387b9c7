use Rattle.std.proofs.Common.{◌≡◌, map, All}
use Rattle.std.specs.List.{range_with_len}
use Rattle.compute_blade.specs.Blade.{IsBlade}
use Rattle.compute_blade.specs.Start.{first_blade}
use Rattle.rack_core.proofs.starts.start_blades.Given as goal

abbrev pub invariant-loop-number : goal.invariant-loop-number
invariant-loop-number l =
    (l.blades.items ≡ map (first_blade l.plan) (range_with_len 0 l.number)) × All IsBlade l.blades.items
