use Rattle.std.proofs.Common.{◌≡◌, replicate, []}
use Rattle.flat_memory.proofs.memories.FlatMemory.new.Given as goal

abbrev pub invariant-loop : goal.invariant-loop
invariant-loop l = l.domains.items ≡ replicate l.counter []
