use Rattle.std.proofs.Common.{◌≡◌, replicate, None}
use Rattle.memory_blade.proofs.blades.MemoryBlade.new.Given as goal

abbrev pub invariant-loop : goal.invariant-loop
invariant-loop l = l.images.items ≡ replicate l.counter None
