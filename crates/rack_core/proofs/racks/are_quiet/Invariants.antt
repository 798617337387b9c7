use Rattle.std.proofs.Common.{◌≡◌, [], All, take}
use Rattle.rack_core.proofs.racks.are_quiet.Given as goal

abbrev pub invariant-loop-blade : goal.invariant-loop-blade
invariant-loop-blade l = All (λ blade. blade.requests ≡ []) (take l.blade-index l.blades)
