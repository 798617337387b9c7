use Rattle.std.proofs.Common.{◌≡◌, take}
use Rattle.mind_base.proofs.duplicates.copies_of.Given as goal

abbrev pub invariant-loop-value : goal.invariant-loop-value
invariant-loop-value g l = l.copies ≡ take l.value-index l.values
