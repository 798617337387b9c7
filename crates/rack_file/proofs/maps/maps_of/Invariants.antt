use Rattle.std.proofs.Common.{◌≡◌, codes, [], drop}
use Rattle.toml.specs.View.{items_view}
use Rattle.mind_base.specs.Permission.{permission_of}
use Rattle.protect_table.specs.Protect.{permission_at}
use Rattle.control_plane.specs.Outcome.{are_placed}
use Rattle.rack_file.specs.Keys.{items_judged}
use Rattle.rack_file.specs.Tables.{map_judged}
use Rattle.rack_file.proofs.maps.maps_of.Given as goal

abbrev pub invariant-loop-value : goal.invariant-loop-value
invariant-loop-value l = record {
  judged : items_judged (λ done. map_judged (are_placed l.homes.homes) (permission_of done)) (codes "map") l.maps (items_view (drop l.value-index l.values))
      ≡ items_judged (λ done. map_judged (are_placed l.homes.homes) (permission_of done)) (codes "map") [] (items_view l.values);
  table : permission_at l.table ≡ permission_of l.maps;
  slots : l.table.slots ≡ 4294967295;
}
