use Rattle.std.proofs.Common.{◌≡◌, ℕ, ◌<◌, false}
use Rattle.std.specs.List.{slice_get}
use Rattle.std.specs.Option.{IfSome}
use Rattle.invalidate_multicast.specs.Transition.{is_answered}
use Rattle.invalidate_multicast.proofs.transitions.first_answered.Given as goal

abbrev pub invariant-loop-i : goal.invariant-loop-i
invariant-loop-i l =
    (k : ℕ) → k < l.i → IfSome (slice_get l.directory.entries k) (λ e. is_answered e.busy ≡ false)
