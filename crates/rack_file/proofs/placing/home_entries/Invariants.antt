use Rattle.std.proofs.Common.{◌≡◌, ◌++◌, map, drop}
use Rattle.mind_base.specs.Fit.{all_homes}
use Rattle.rack_file.specs.Tables.{home_entry}
use Rattle.rack_file.proofs.placing.home_entries.Given as goal

abbrev pub invariant-loop-memory : goal.invariant-loop-memory
invariant-loop-memory l = l.entries.items ++ map home_entry (all_homes (drop l.memory-index l.memories)) ≡ map home_entry (all_homes l.memories)
