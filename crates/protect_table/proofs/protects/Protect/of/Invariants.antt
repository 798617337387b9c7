use Rattle.std.proofs.Common.{◌≡◌, take}
use Rattle.mind_base.specs.Permission.{permission_of}
use Rattle.protect_table.specs.Protect.{permission_at}
use Rattle.protect_table.proofs.protects.Protect.of.Given as goal

abbrev pub invariant-loop-entry : goal.invariant-loop-entry
invariant-loop-entry l = (l.table.slots ≡ 4294967295) × (permission_at l.table ≡ permission_of (take l.entry-index l.maps))
