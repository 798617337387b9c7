-- A step and a drain of a hart of the rack lead the machine on by the labels noted.
use Rattle.std.proofs.Common.{◌≡◌, ℕ, ◌∙◌, ap, sym, refl, subst, List, Option, Some, None, slice_get, option_map}
use Rattle.std.specs.Prelude.{option_and_then}
use Rattle.std.proofs.lemmas.Option.{same_Some}
use Rattle.mind_base.specs.Page.{PageView}
use Rattle.mind_base.specs.declared.events.Event.TheVariants.{Step, Drain}
use Rattle.mind_base.specs.declared.images.Image.{Image}
use Rattle.mind_base.specs.declared.notes.Note.{Note}
use Rattle.mind_base.specs.declared.plans.ThreadPlan.{ThreadPlan}
use Rattle.page_cache.specs.PageCache.{frame_of}
use Rattle.page_image.specs.PageImage.{PageImageView}
use Rattle.protect_table.specs.Protect.{permission_at}
use Rattle.compute_blade.specs.Blade.{HartView, BladeView, BladeEffect, hart_of}
use Rattle.compute_blade.specs.Steps.{step_at, drain_of, after_step, blade_after_drain}
use Rattle.coherence.specs.Facts.{IsCoherent}
use Rattle.coherence.proofs.Callers.{run_keeps}
use Rattle.tso_machine.specs.State.{Setup, State}
use Rattle.rack_core.specs.BladeMoves.{image_or, BladeLeads}
use Rattle.rack_core.specs.Events.{BladeActs, HartDoes, Leads}
use Rattle.rack_core.specs.Rack.{RackView}
use Rattle.rack_core.specs.Seen.{seen, frame_at}
use Rattle.rack_core.specs.Stands.{IsHartAt}
use Rattle.rack_core.specs.StandRuns.{GoesWith, BladeBecame, AreNewest, LeadsMachine, GoesOn, AreCounted}
use Rattle.rack_core.proofs.Moves.Blade.Handed.{did, step_leads, drain_leads, OfHart}
use Rattle.rack_core.proofs.Moves.Blade.Steps.{for_hart-some}
use Rattle.rack_core.proofs.Lists.Lookups.{slice_get-set}
use Rattle.rack_core.proofs.Machine.Blades.{Runs, step-runs, drain-runs}

-- ---- a blade of the rack

-- the blade became what its effect says
pub became : (c : ℕ) (e : BladeEffect) (old new : RackView) (noted : List Note) → BladeActs c e old new noted → BladeBecame c e.blade old new
became c e old new noted acts = record {
  plan = ap (λ (r : RackView). r.plan) acts.after;
  blades = ap (λ (r : RackView). r.blades) acts.after;
  perms = ap (λ (r : RackView). permission_at r.switch.protect) acts.after;
}

-- the newest images are those that it holds, or what they were
pub newest-held : (c : ℕ) (blade : BladeView) (e : BladeEffect) (old new : RackView) (noted : List Note) (flat newer : PageView → PageImageView)
    → slice_get old.blades c ≡ Some blade → BladeActs c e old new noted → ((page : PageView) → newer page ≡ image_or (flat page) (frame_at new.blades c page))
    → AreNewest e.blade.cache.entries flat newer
newest-held c blade e old new noted flat newer there acts newest page = newest page ∙ ap (image_or (flat page))
    (ap (λ (rack : RackView). frame_at rack.blades c page) acts.after
    ∙ ap (option_and_then (λ b. frame_of page b.cache.entries)) (slice_get-set old.blades c blade e.blade there))

-- what a blade does runs on for the rack
pub acts-run : (images : List Image) (setup : Setup) (old new : RackView) (noted : List Note) (flat newer : PageView → PageImageView) (m : State) (c : ℕ) (blade : BladeView) (e : BladeEffect)
    → slice_get old.blades c ≡ Some blade → BladeActs c e old new noted → ((page : PageView) → newer page ≡ image_or (flat page) (frame_at new.blades c page))
    → AreCounted new → Runs images setup old flat m c e → LeadsMachine setup m noted new newer
acts-run images setup old new noted flat newer m c blade e there acts newest counted runs =
    subst (λ n. LeadsMachine setup m n new newer) (sym acts.notes)
    (runs new newer (became c e old new noted acts) counted (newest-held c blade e old new noted flat newer there acts newest))

-- ---- a hart of the rack

-- hart h is one of its blade, where its blade does something for it
pub hart-at : (images : List Image) (setup : Setup) (old : RackView) (flat : PageView → PageImageView) (m : State) → GoesWith images setup old flat m → (h : ℕ) (thread : ThreadPlan)
    → slice_get old.plan.threads h ≡ Some thread → (blade : BladeView) → slice_get old.blades thread.blade ≡ Some blade
    → (plan : ThreadPlan) (hart : HartView) → slice_get blade.plan.threads h ≡ Some plan → hart_of blade h ≡ Some hart
    → (plan ≡ thread) × IsHartAt old h hart
hart-at images setup old flat m goes h thread planned blade there plan hart own_plan own = (
  same_Some _ _ (sym own_plan ∙ ap (λ p. slice_get p.threads h) (goes.one.blades thread.blade blade there) ∙ planned),
  record { plan = thread; blade = blade; thread = planned; there = there; own = own },
)

-- a step of hart h
step-does : (images : List Image) (setup : Setup) (old : RackView) (flat : PageView → PageImageView) (m : State) → GoesWith images setup old flat m → (h : ℕ) (thread : ThreadPlan)
    → slice_get old.plan.threads h ≡ Some thread → (blade : BladeView) → slice_get old.blades thread.blade ≡ Some blade
    → (e : BladeEffect) → after_step images h blade ≡ Some e → Runs images setup old flat m thread.blade e
step-does images setup old flat m goes h thread planned blade there e does =
    let o = for_hart-some blade h (λ plan hart. option_map (λ image. step_at hart.end h plan image blade hart) (slice_get images plan.image)) e does in
    let its = hart-at images setup old flat m goes h thread planned blade there o.plan o.hart o.thread o.own in
    let at : IsHartAt old h o.hart = record { plan = thread; blade = blade; thread = planned; there = there; own = o.own } in
    by o.hart at refl refl (slice_get images thread.image) refl (subst (λ (p : ThreadPlan). option_map (λ image. step_at o.hart.end h p image blade o.hart) (slice_get images p.image) ≡ Some e) its.0 o.does)
  where
    by : (hart : HartView) (at : IsHartAt old h hart) → at.plan ≡ thread → at.blade ≡ blade → (code : Option Image) → slice_get images thread.image ≡ code
        → option_map (λ image. step_at hart.end h thread image blade hart) code ≡ Some e → Runs images setup old flat m thread.blade e
    by hart at same_plan same_blade None is d = let never : ⊥ = cc in absurd never
    by hart at same_plan same_blade (Some image) is d =
        subst (Runs images setup old flat m thread.blade) (same_Some _ _ d)
        (step-runs images setup old flat m goes h hart (record { plan = thread; blade = blade; thread = planned; there = there; own = subst (λ b. hart_of b h ≡ Some hart) same_blade at.own }) image is hart.end refl)

-- a drain of hart h
drain-does : (images : List Image) (setup : Setup) (old : RackView) (flat : PageView → PageImageView) (m : State) → GoesWith images setup old flat m → (h : ℕ) (thread : ThreadPlan)
    → slice_get old.plan.threads h ≡ Some thread → (blade : BladeView) → slice_get old.blades thread.blade ≡ Some blade
    → (e : BladeEffect) → blade_after_drain h blade ≡ Some e → Runs images setup old flat m thread.blade e
drain-does images setup old flat m goes h thread planned blade there e does =
    let o = for_hart-some blade h (λ plan hart. Some (drain_of h plan blade hart)) e does in
    let its = hart-at images setup old flat m goes h thread planned blade there o.plan o.hart o.thread o.own in
    subst (Runs images setup old flat m thread.blade) (same_Some _ _ (subst (λ (p : ThreadPlan). Some (drain_of h p blade o.hart) ≡ Some e) its.0 o.does))
    (drain-runs images setup old flat m goes h o.hart (record { plan = thread; blade = blade; thread = planned; there = there; own = o.own }))

-- ---- events

-- what a hart's blade does, by the plan, runs on for the rack
hart-runs : (images : List Image) (setup : Setup) (old new : RackView) (noted : List Note) (flat newer : PageView → PageImageView) (m : State) (h : ℕ) (act : BladeView → Option BladeEffect)
    → ((thread : ThreadPlan) → slice_get old.plan.threads h ≡ Some thread → (blade : BladeView) → slice_get old.blades thread.blade ≡ Some blade → (e : BladeEffect) → act blade ≡ Some e
    → Runs images setup old flat m thread.blade e)
    → (thread : ThreadPlan) → slice_get old.plan.threads h ≡ Some thread → ((page : PageView) → newer page ≡ image_or (flat page) (frame_at new.blades thread.blade page))
    → AreCounted new → HartDoes (slice_get old.plan.threads h) act old new noted → LeadsMachine setup m noted new newer
hart-runs images setup old new noted flat newer m h act runs thread planned newest counted given =
    let d = did thread.blade act old new noted (subst (λ t. HartDoes t act old new noted) planned given) in
    acts-run images setup old new noted flat newer m thread.blade d.blade d.effect d.there d.acts newest counted (runs thread planned d.blade d.there d.effect d.does)

-- what a hart's blade does goes on, where it leads the rack on
hart-goes : (images : List Image) (setup : Setup) (h : ℕ) (act : BladeView → Option BladeEffect) (old new : RackView) (noted : List Note) (flat : PageView → PageImageView) (m : State) → IsCoherent (seen old flat)
    → ((thread : ThreadPlan) → slice_get old.plan.threads h ≡ Some thread → (blade : BladeView) → slice_get old.blades thread.blade ≡ Some blade → (e : BladeEffect) → act blade ≡ Some e
    → Runs images setup old flat m thread.blade e)
    → OfHart h old (λ c. BladeLeads c (seen old flat) (seen new) new) → AreCounted new → HartDoes (slice_get old.plan.threads h) act old new noted → GoesOn images setup m noted new
hart-goes images setup h act old new noted flat m coherent runs led counted given = record {
  flat = led.does.leads.flat;
  coherent = run_keeps (seen old flat) (seen new led.does.leads.flat) led.does.leads.moves coherent led.does.leads.run;
  sound = led.does.leads.sound;
  machine = hart-runs images setup old new noted flat led.does.leads.flat m h act runs led.thread led.planned led.does.newest counted given;
}

-- A step goes on: the rack is coherent, and the labels noted lead the machine to a state that it stands for.
pub step-goes : (images : List Image) (setup : Setup) (h : ℕ) (old new : RackView) (noted : List Note) (flat : PageView → PageImageView) (m : State) → IsCoherent (seen old flat)
    → GoesWith images setup old flat m → Leads images (Step h) old new noted → AreCounted new → GoesOn images setup m noted new
step-goes images setup h old new noted flat m coherent goes given counted =
    hart-goes images setup h (after_step images h) old new noted flat m coherent (step-does images setup old flat m goes h) (step_leads images h old new noted flat coherent goes.sound given) counted given

-- So does a drain.
pub drain-goes : (images : List Image) (setup : Setup) (h : ℕ) (old new : RackView) (noted : List Note) (flat : PageView → PageImageView) (m : State) → IsCoherent (seen old flat)
    → GoesWith images setup old flat m → Leads images (Drain h) old new noted → AreCounted new → GoesOn images setup m noted new
drain-goes images setup h old new noted flat m coherent goes given counted =
    hart-goes images setup h (blade_after_drain h) old new noted flat m coherent (drain-does images setup old flat m goes h) (drain_leads images h old new noted flat coherent goes.sound given) counted given

-- What goes on goes with the machine's next state, in a rack of the same plan.
pub goes-on : (images : List Image) (setup : Setup) (m : State) (noted : List Note) (new : RackView) → setup.plan ≡ new.plan → setup.images ≡ images
    → (on : GoesOn images setup m noted new) → GoesWith images setup new on.flat on.machine.next
goes-on images setup m noted new plan code on = record {
  plan = plan;
  code = code;
  one = on.machine.one;
  frames = on.coherent.frames;
  sound = on.sound;
  pending = on.machine.pending;
  stands = on.machine.stands;
}
