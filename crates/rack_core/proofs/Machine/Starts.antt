-- A rack that starts stands for the log in which nothing is noted.
use Rattle.std.proofs.Common.{◌≡◌, ◌<◌, ◌%◌, ◌==◌, ℕ, ◌∙◌, Bool, true, false, ap, sym, refl, subst, List, [], map, slice_get, slice_index, Option, Some, None, option_map, arith}
use Rattle.std.specs.Prelude.{if◌then◌else◌, option_and_then}
use Rattle.std.proofs.lemmas.Bool.{eqb-true}
use Rattle.std.proofs.lemmas.List.{get_or-replicate}
use Rattle.std.proofs.lemmas.Option.{same_Some, slice_get-map}
use Rattle.mind_base.specs.Fit.{IsFit}
use Rattle.mind_base.specs.declared.images.Image.{Image}
use Rattle.mind_base.specs.declared.plans.RackPlan.{RackPlan}
use Rattle.mind_base.specs.declared.plans.ThreadPlan.{ThreadPlan}
use Rattle.mind_base.specs.Plan.{image_place}
use Rattle.hart_effect.specs.Thread.{first_thread}
use Rattle.page_image.specs.PageImage.{tag_at, zero_image}
use Rattle.page_image.proofs.Callers.{IsPageImage-zero_image}
use Rattle.compute_blade.specs.Blade.{HartView, BladeView, hart_of}
use Rattle.compute_blade.specs.Harts.{first_hart}
use Rattle.compute_blade.specs.Start.{first_blade, hart_for}
use Rattle.tso_machine.specs.State.{start_state}
use Rattle.rack_core.specs.Rack.{RackView}
use Rattle.rack_core.specs.Start.{IsStart}
use Rattle.rack_core.specs.StandLog.{made_from, StandsAt, StandsForLog}
use Rattle.rack_core.specs.StandRuns.{ArePending}
use Rattle.rack_core.specs.Stands.{IsHartAt, IsPast, RackStandsFor, machine_thread}
use Rattle.rack_core.specs.Telling.{HasRoom, IsLogOf}
use Rattle.rack_core.proofs.Log.Hits.Rack.{start-released}
use Rattle.rack_core.proofs.Log.Held.Rack.{starts_log, starts_room}
use Rattle.rack_core.proofs.Events.Starting.{blade_is, starts, starts_coherent}

-- ---- harts

-- a hart of a blade that starts is the first one of its thread, which the plan has at that blade
record IsFirst (plan : RackPlan) (c h : ℕ) (hart : HartView) : Type 0 where
  thread : ThreadPlan
  planned : slice_get plan.threads h ≡ Some thread
  here : thread.blade ≡ c
  own : hart ≡ first_hart (image_place plan.images thread.image) thread.queue

first-hart : (plan : RackPlan) (c h : ℕ) (hart : HartView) → hart_of (first_blade plan c) h ≡ Some hart → IsFirst plan c h hart
first-hart plan c h hart own = at (slice_get plan.threads h) refl (sym (ap (option_and_then (λ o. o)) (slice_get-map (hart_for plan c) plan.threads h)) ∙ own) where
  at : (thread : Option ThreadPlan) → slice_get plan.threads h ≡ thread → option_and_then (λ (o : Option HartView). o) (option_map (hart_for plan c) thread) ≡ Some hart → IsFirst plan c h hart
  at None planned own = let never : ⊥ = cc in absurd never
  at (Some thread) planned own = by (thread.blade == c) refl own where
    by : (b : Bool) → (thread.blade == c) ≡ b → (if b then Some (first_hart (image_place plan.images thread.image) thread.queue) else None) ≡ Some hart → IsFirst plan c h hart
    by true e own = record { thread = thread; planned = planned; here = eqb-true thread.blade c e; own = sym (same_Some _ _ own) }
    by false e own = let never : ⊥ = cc in absurd never

-- so is each hart of a rack that starts
rack-first : (plan : RackPlan) (rack : RackView) → IsStart plan rack → (c : ℕ) (blade : BladeView) → slice_get rack.blades c ≡ Some blade → (h : ℕ) (hart : HartView) → hart_of blade h ≡ Some hart → IsFirst plan c h hart
rack-first plan rack start c blade there h hart own =
    let is = blade_is plan c blade (ap (λ (blades : List BladeView). slice_get blades c) (sym start.blades) ∙ there) in
    first-hart plan c h hart (ap (λ b. hart_of b h) (sym is.1) ∙ own)

hart-first : (plan : RackPlan) (rack : RackView) → IsStart plan rack → (h : ℕ) (hart : HartView) (at : IsHartAt rack h hart) → IsFirst plan at.plan.blade h hart
hart-first plan rack start h hart at = rack-first plan rack start at.plan.blade at.blade at.there h hart at.own

-- ---- the newest images are zero

zero-bytes : (offset : ℕ) → offset < 4096 → slice_index zero_image.bytes offset ≡ 0
unfolding zero_image
zero-bytes offset within = get_or-replicate {A = ℕ} 4096 offset 0 0 within

zero-tags : (granule : ℕ) → granule < 64 → tag_at zero_image granule ≡ 0
unfolding zero_image
zero-tags granule within = get_or-replicate {A = ℕ} 64 granule 0 0 within

past-zero : (rack : RackView) (tag : ℕ) → tag ≡ 0 → IsPast rack tag
past-zero rack tag none hart at = omega (arith, none)

-- ---- the state at the start

first-stands : (images : List Image) (plan : RackPlan) (rack : RackView) → IsStart plan rack → RackStandsFor rack (λ page. zero_image) (start_state (made_from images plan))
first-stands images plan rack start = record {
  threads = threads;
  bytes = λ domain address. sym (zero-bytes (address % 4096) (omega arith));
  perms = sym start.switch.protect;
  images = λ page. IsPageImage-zero_image;
  tags = λ page granule within. past-zero rack (tag_at zero_image granule) (zero-tags granule within);
  kept = λ h hart reservation at e.
      let none = ap (λ (x : HartView). x.reserved) (sym (hart-first plan rack start h hart at).own) ∙ e in
      let never : ⊥ = cc in absurd never;
} where
  threads : (h : ℕ) (hart : HartView) → IsHartAt rack h hart
      → slice_get (map (λ (t : ThreadPlan). first_thread (image_place plan.images t.image)) plan.threads) h ≡ Some (machine_thread (λ page. zero_image) hart)
  threads h hart at =
      let first = hart-first plan rack start h hart at in
      slice_get-map (λ (t : ThreadPlan). first_thread (image_place plan.images t.image)) plan.threads h
      ∙ ap (option_map (λ (t : ThreadPlan). first_thread (image_place plan.images t.image))) first.planned
      ∙ ap (λ x. Some (machine_thread (λ page. zero_image) x)) (sym first.own)

start-stands : (images : List Image) (plan : RackPlan) (rack : RackView) → IsFit plan → IsStart plan rack → StandsAt images (made_from images plan) rack (start_state (made_from images plan))
start-stands images plan rack fit start =
    let coherent = starts_coherent plan rack fit start in
    let safe = starts plan rack fit start in
    record {
      flat = λ page. zero_image;
      coherent = coherent;
      sound = safe.sound;
      placed = λ c blade h hart thread there own planned.
          let first = rack-first plan rack start c blade there h hart own in
          let same : first.thread ≡ thread = same_Some _ _ (sym first.planned ∙ ap (λ (p : RackPlan). slice_get p.threads h) (sym start.of_plan) ∙ planned) in
          ap (λ (t : ThreadPlan). t.blade) (sym same) ∙ first.here;
      goes = record {
        plan = sym start.of_plan;
        code = refl;
        one = record {
          fit = subst IsFit (sym start.of_plan) fit;
          blades = λ c blade there.
              let is = blade_is plan c blade (ap (λ (blades : List BladeView). slice_get blades c) (sym start.blades) ∙ there) in
              ap (λ (b : BladeView). b.plan) is.1 ∙ sym start.of_plan;
        };
        frames = coherent.frames;
        sound = safe.sound.blades;
        pending = λ h hart at. subst (λ (x : HartView). ArePending x.queue.stores) (sym (hart-first plan rack start h hart at).own) tt;
        stands = first-stands images plan rack start;
      };
    }

-- The rack of a plan before its first event stands for the empty log.
pub start-logs : (images : List Image) (plan : RackPlan) (rack : RackView) → IsFit plan → IsStart plan rack → StandsForLog images rack []
start-logs images plan rack fit start = record {
  state = start_state (made_from images rack.plan);
  run = refl;
  at = subst (λ p. StandsAt images (made_from images p) rack (start_state (made_from images p))) (sym start.of_plan) (start-stands images plan rack fit start);
  room = subst (λ p. HasRoom p rack) (sym start.of_plan) (starts_room plan rack start);
  told = subst (λ p. IsLogOf p rack []) (sym start.of_plan) (starts_log plan rack start);
  accesses = tt;
  released = start-released plan rack start;
}
