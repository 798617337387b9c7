use Rattle.std.proofs.Common.{◌≡◌, ◌++◌, length}
use Rattle.link_retry.proofs.links.take_front.Given as goal

abbrev pub invariant-loop : goal.invariant-loop
invariant-loop l = (l.taken.items ++ l.pending.items ≡ l.initial.pending.items) × (length l.taken.items ≡ l.counter)
