use Rattle.std.proofs.Common.{◌≡◌, ◌++◌, map, drop}
use Rattle.rack_file.specs.Tables.{home_entry}
use Rattle.rack_file.proofs.placing.add_entries.Given as goal

abbrev pub invariant-loop-home : goal.invariant-loop-home
invariant-loop-home l = l.entries.items ++ map home_entry (drop l.home-index l.homes) ≡ l.initial.entries.items ++ map home_entry l.homes
