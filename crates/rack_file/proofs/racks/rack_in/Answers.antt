use Rattle.std.proofs.Common.{◌≤◌, List, All, length, subst, sym}
use Rattle.std.proofs.lemmas.List.Elements.{All-from_recursion, All-weaker}
use Rattle.mind_base.specs.Fit.{AreApart, IsFitMemory, all_homes}
use Rattle.mind_base.specs.declared.plans.MemoryPlan.{MemoryPlan}
use Rattle.toml.specs.View.{table_view}
use Rattle.rack_file.proofs.FitHomes.{memories-fit}
use Rattle.rack_file.specs.Judged.{RefusesAs}
use Rattle.rack_file.specs.Settings.{settings_judged}
use Rattle.rack_file.specs.Tables.{blades_judged, memories_judged, images_judged, threads_judged}
use Rattle.rack_file.proofs.Judging.{stops-here, stops-on}
use Rattle.rack_file.proofs.racks.rack_in.Goals as goal

pub returns-in-Err-threads_in : goal.returns-in-Err-threads_in
returns-in-Err-threads_in c =
    let top = table_view c.args.document.now in
    let e = c.in-Err-threads_in.e in
    let counted : RefusesAs e (threads_judged (length c.in-Ok-elements_in.frames) (length c.in-Ok-elements_in-2.images) top) = rw (sym c.len.ensures, sym c.len-2.ensures) c.in-Err-threads_in.ensures in
    stops-on e (settings_judged top) _ _ c.in-Ok.ensures (stops-on e (blades_judged top) _ _ c.in-Ok-elements_in.ensures.array
    (stops-on e (memories_judged top) _ _ c.in-Ok-memories_in.ensures (stops-on e (images_judged top) _ _ c.in-Ok-elements_in-2.ensures.array
    (stops-here e (threads_judged _ _ top) _ counted))))

pub maps_in-requires-clause-apart : goal.maps_in-requires-clause-apart
maps_in-requires-clause-apart c =
    let fit = memories-fit (table_view c.args.document.now) c.in-Ok-memories_in.memories c.in-Ok-memories_in.ensures in
    let P : List MemoryPlan → Type 0 = λ ms. AreApart (all_homes ms) in
    subst P (sym c.as_slice.ensures) fit.kept.1

pub maps_in-requires-clause-few : goal.maps_in-requires-clause-few
maps_in-requires-clause-few c =
    let fit = memories-fit (table_view c.args.document.now) c.in-Ok-memories_in.memories c.in-Ok-memories_in.ensures in
    let P : List MemoryPlan → Type 0 = λ ms. length ms ≤ 8 in
    subst P (sym c.as_slice.ensures) fit.count.1

pub maps_in-requires-clause-spare : goal.maps_in-requires-clause-spare
maps_in-requires-clause-spare c =
    let fit = memories-fit (table_view c.args.document.now) c.in-Ok-memories_in.memories c.in-Ok-memories_in.ensures in
    let P : List MemoryPlan → Type 0 = λ ms. All (λ m. m.spare ≤ 4096) ms in
    subst P (sym c.as_slice.ensures) (All-weaker IsFitMemory (λ m. m.spare ≤ 4096) (λ m fit. fit.spare) _ (All-from_recursion IsFitMemory _ fit.kept.0))
