use Rattle.std.proofs.Common.{◌≡◌, drop, nat_le}
use Rattle.rack_file.specs.Tables.{all_home_pages}
use Rattle.rack_file.proofs.homes.has_room.Given as goal

abbrev pub invariant-loop-memory : goal.invariant-loop-memory
invariant-loop-memory l = nat_le (all_home_pages (drop l.memory-index l.memories)) l.left ≡ nat_le (all_home_pages l.memories) l.pages
