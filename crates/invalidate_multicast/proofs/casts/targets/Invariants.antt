use Rattle.std.proofs.Common.{◌≡◌, map}
use Rattle.std.specs.List.{range_with_len, filter}
use Rattle.invalidate_multicast.specs.Blades.{has_blade, cast_to}
use Rattle.invalidate_multicast.proofs.casts.targets.Given as goal

abbrev pub invariant-loop-blade : goal.invariant-loop-blade
invariant-loop-blade l =
    l.casts.items ≡ map cast_to (filter (has_blade l.blades) (range_with_len 0 l.blade))
