use Rattle.std.proofs.Common.{◌≡◌, ◌+◌, ◌++◌, ◌∷◌, [], List, drop, map, length, sym, ◌∙◌, ap}
use Rattle.mind_base.specs.Span.{SpanView}
use Rattle.mind_base.specs.Fit.{all_homes}
use Rattle.mind_base.specs.Permission.{permission_of}
use Rattle.toml.specs.View.{view, items_view}
use Rattle.rack_file.specs.Keys.{items_judged, member_path}
use Rattle.rack_file.specs.Tables.{is_apart, home_judged, home_entry}
use Rattle.rack_file.proofs.HomesTable.{home-accepted, home-refused, homes-push}
use Rattle.rack_file.proofs.Walks.{items-step, items-stop}
use Rattle.rack_file.proofs.homes.homes_of.Goals as goal

pub loop-value-preserved : goal.loop-value-preserved
loop-value-preserved c =
    let pushed : c.push.new.self ≡ c.loop-value.homes ++ c.in-Ok-next_home.home ∷ [] = c.in-Ok-push.ensures.ok in
    let judge = λ (done : List SpanView). home_judged (is_apart (all_homes c.args.memories.now ++ done)) in
    let accepted = home-accepted _ (all_homes c.args.memories.now ++ c.loop-value.homes) (member_path c.args.path.now (length c.loop-value.homes)) (view c.value-item.result) c.in-Ok-next_home.home c.loop-value.invariant.table c.in-Ok-next_home.ensures in
    record {
      judged = ap (λ homes. items_judged judge c.args.path.now homes (items_view (drop (c.loop-value.value-index + 1) c.args.values.now))) pushed
          ∙ (items-step judge c.args.path.now c.loop-value.homes c.args.values.now c.loop-value.value-index c.value-item.result c.in-Ok-next_home.home c.loop-value-test.true c.value-item.is accepted
          ∙ c.loop-value.invariant.judged);
      table = c.in-Ok-put.ensures.ok ∙ (homes-push _ (all_homes c.args.memories.now) c.loop-value.homes c.in-Ok-next_home.home c.loop-value.invariant.table
          ∙ ap (λ homes. permission_of (map home_entry (all_homes c.args.memories.now ++ homes))) (sym pushed));
      slots = c.in-Ok-put.ensures.slots ∙ c.loop-value.invariant.slots;
    }

pub returns-in-Err-next_home : goal.returns-in-Err-next_home
returns-in-Err-next_home c =
    let judge = λ (done : List SpanView). home_judged (is_apart (all_homes c.args.memories.now ++ done)) in
    items-stop judge c.args.path.now c.loop-value.homes c.args.values.now c.loop-value.value-index c.value-item.result c.in-Err-next_home.e _ c.loop-value-test.true c.value-item.is c.loop-value.invariant.judged
    (home-refused _ (all_homes c.args.memories.now ++ c.loop-value.homes) (member_path c.args.path.now (length c.loop-value.homes)) (view c.value-item.result) c.in-Err-next_home.e c.loop-value.invariant.table c.in-Err-next_home.ensures)
