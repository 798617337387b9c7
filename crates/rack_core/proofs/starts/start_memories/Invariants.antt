use Rattle.std.proofs.Common.{◌≡◌, map, ◌++◌, drop}
use Rattle.std.specs.List.{AllByRecursion}
use Rattle.mind_base.specs.Fit.{IsFitMemory, AreApart, all_homes}
use Rattle.rack_core.specs.Start.{first_memory}
use Rattle.rack_core.proofs.starts.start_memories.Given as goal

abbrev pub invariant-loop-memory : goal.invariant-loop-memory
invariant-loop-memory l =
    (l.blades.items ++ map first_memory (drop l.memory-index l.memories) ≡ map first_memory l.memories)
    × AllByRecursion IsFitMemory (drop l.memory-index l.memories) × AreApart (all_homes (drop l.memory-index l.memories))
