use Rattle.std.proofs.Common.{◌≡◌, ◌+◌, ◌++◌, ◌∷◌, [], drop, refl, sym, ◌∙◌, ap, codes}
use Rattle.mind_base.specs.Permission.{permission_of}
use Rattle.mind_base.specs.Cover.{cover_of}
use Rattle.protect_table.specs.Protect.{changed}
use Rattle.protect_table.proofs.Callers.{cover_of-fits, permission_of-push}
use Rattle.control_plane.specs.Outcome.{are_placed}
use Rattle.toml.specs.View.{items_view}
use Rattle.rack_file.specs.Keys.{items_judged}
use Rattle.rack_file.specs.Tables.{map_judged}
use Rattle.rack_file.proofs.Walks.{items-step}
use Rattle.rack_file.proofs.maps.maps_of.Goals as goal

pub of-requires : goal.of-requires
of-requires c = cover_of-fits _ _ refl

pub loop-value-preserved : goal.loop-value-preserved
loop-value-preserved c =
    let pushed : c.push.new.self ≡ c.loop-value.maps ++ c.in-Ok-next_map.entry ∷ [] = c.in-Ok-push.ensures.ok in
    record {
      judged = ap (λ maps. items_judged (λ done. map_judged (are_placed c.args.homes.now.homes) (permission_of done)) (codes "map") maps (items_view (drop (c.loop-value.value-index + 1) c.args.values.now))) pushed
          ∙ (items-step (λ done. map_judged (are_placed c.args.homes.now.homes) (permission_of done)) (codes "map") c.loop-value.maps c.args.values.now c.loop-value.value-index c.value-item.result c.in-Ok-next_map.entry c.loop-value-test.true c.value-item.is c.in-Ok-next_map.ensures
          ∙ c.loop-value.invariant.judged);
      table = c.in-Ok-put.ensures.ok ∙ (ap (λ permissions. changed permissions c.in-Ok-next_map.entry.span c.in-Ok-next_map.entry.perm) c.loop-value.invariant.table
          ∙ (sym (permission_of-push c.loop-value.maps c.in-Ok-next_map.entry) ∙ ap permission_of (sym pushed)));
      slots = c.in-Ok-put.ensures.slots ∙ c.loop-value.invariant.slots;
    }

pub returns-clause-cover : goal.returns-clause-cover
returns-clause-cover c = c.cover-cover.ensures.cover ∙ ap cover_of c.loop-value.invariant.table
