-- The code starts a rack of the plan's shape.
use Rattle.std.proofs.Common.{◌≡◌, refl, sym, ap, subst, ◌∙◌, ℕ, List, [], ◌∷◌, length, map, slice_get, Some, suc}
use Rattle.std.specs.Prelude.{All}
use Rattle.std.proofs.lemmas.List.FromFn.{length-map-range_with_len}
use Rattle.std.proofs.lemmas.Option.{slice_get_within, get_or_from_slice_get}
use Rattle.mind_base.specs.Fit.{IsFit}
use Rattle.mind_base.specs.declared.plans.MemoryPlan.{MemoryPlan}
use Rattle.mind_base.specs.declared.plans.RackPlan.{RackPlan}
use Rattle.compute_blade.specs.Blade.{BladeView, IsBlade}
use Rattle.compute_blade.specs.Start.{first_blade}
use Rattle.rack_net.specs.Net.{IsNet}
use Rattle.region_directory.specs.Directory.{DirectoryView}
use Rattle.switch_core.specs.Invariant.{IsSwitch}
use Rattle.rack_core.specs.Rack.{RackView}
use Rattle.rack_core.specs.Shape.{IsShaped, IsBladeOf}
use Rattle.rack_core.specs.Start.{IsStart, first_memory}
use Rattle.rack_core.proofs.Events.Starting.{blade_is}

-- so many images for each memory blade
memories-many : (memories : List MemoryPlan) → length (map first_memory memories) ≡ length memories
memories-many [] = refl
memories-many (m ∷ memories) = ap suc (memories-many memories)

pub first-shape : (plan : RackPlan) (rack : RackView) → IsFit plan → IsStart plan rack → All IsBlade rack.blades
    → rack.net.blades ≡ length plan.frames → rack.net.memories ≡ length plan.memories → IsNet rack.net → IsSwitch rack.switch → IsShaped rack
first-shape plan rack fit start all blades memories net switch = record {
  fit = subst IsFit (sym start.of_plan) fit;
  blades = ap length start.blades ∙ length-map-range_with_len (first_blade plan) 0 (length plan.frames) ∙ same_frames;
  each = each;
  switch = start.switch.of_plan ∙ sym start.of_plan;
  memories = ap length start.memories ∙ memories-many plan.memories ∙ ap (λ (p : RackPlan). length p.memories) (sym start.of_plan);
  links = (blades ∙ same_frames, memories ∙ ap (λ (p : RackPlan). length p.memories) (sym start.of_plan));
  net = net;
  core = switch;
  slots = ap (λ (d : DirectoryView). d.slots) start.switch.directory ∙ ap (λ (p : RackPlan). p.slots) (sym start.of_plan);
} where
  same_frames : length plan.frames ≡ length rack.plan.frames
  same_frames = ap (λ (p : RackPlan). length p.frames) (sym start.of_plan)

  each : (c : ℕ) (blade : BladeView) → slice_get rack.blades c ≡ Some blade → IsBladeOf rack.plan c blade
  each c blade there =
      let is = blade_is plan c blade (ap (λ (bs : List BladeView). slice_get bs c) (sym start.blades) ∙ there) in
      record {
        plan = ap (λ (b : BladeView). b.plan) is.1 ∙ sym start.of_plan;
        number = ap (λ (b : BladeView). b.number) is.1;
        shape = subst IsBlade (get_or_from_slice_get rack.blades c blade blade there) (all c blade (slice_get_within rack.blades c blade there));
      }
