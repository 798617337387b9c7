use Rattle.std.proofs.Common.{◌≡◌, [], ◌++◌, drop, map}
use Rattle.toml.specs.View.{items_view}
use Rattle.mind_base.specs.Fit.{all_homes}
use Rattle.mind_base.specs.Permission.{permission_of}
use Rattle.protect_table.specs.Protect.{permission_at}
use Rattle.rack_file.specs.Keys.{items_judged}
use Rattle.rack_file.specs.Tables.{is_apart, home_judged, home_entry}
use Rattle.rack_file.proofs.homes.homes_of.Given as goal

abbrev pub invariant-loop-value : goal.invariant-loop-value
invariant-loop-value l = record {
  judged : items_judged (λ done. home_judged (is_apart (all_homes l.memories ++ done))) l.path l.homes (items_view (drop l.value-index l.values))
      ≡ items_judged (λ done. home_judged (is_apart (all_homes l.memories ++ done))) l.path [] (items_view l.values);
  table : permission_at l.table ≡ permission_of (map home_entry (all_homes l.memories ++ l.homes));
  slots : l.table.slots ≡ 4294967295;
}
