use Rattle.std.proofs.Common.{◌≡◌}
use Rattle.toml.specs.View.{members_view}
use Rattle.rack_file.specs.Keys.{has_no_other_key}
use Rattle.rack_file.specs.Tables.{names_in}
use Rattle.rack_file.proofs.sections.has_only.Given as goal

abbrev pub invariant-loop-key : goal.invariant-loop-key
invariant-loop-key l =
    has_no_other_key (names_in l.section) (members_view l.fn.table.entries) ≡ has_no_other_key (names_in l.section) (members_view l.key-iterator)
