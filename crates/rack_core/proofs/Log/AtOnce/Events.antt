-- What a step and a drain event of a rack do at once.
use Rattle.std.proofs.Common.{◌≡◌, inl, inr, ℕ, Bool, true, false, ap, sym, refl, subst, List, [], ◌∷◌, slice_get, Option, Some, None, option_map, ◌∙◌}
use Rattle.std.specs.Prelude.{option_and_then}
use Rattle.std.proofs.lemmas.Option.{same_Some}
use Rattle.mind_base.specs.Page.{PageView}
use Rattle.mind_base.specs.Place.{place_of, page_at}
use Rattle.mind_base.specs.declared.ends.End.{End}
use Rattle.mind_base.specs.declared.ends.End.TheVariants.{Running, Exit, Fault}
use Rattle.mind_base.specs.declared.events.Event.TheVariants.{Step, Drain}
use Rattle.mind_base.specs.declared.images.Image.{Image}
use Rattle.mind_base.specs.declared.notes.Note.{Note}
use Rattle.mind_base.specs.declared.notes.Note.TheVariants as note
use Rattle.mind_base.specs.declared.plans.ThreadPlan.{ThreadPlan}
use Rattle.hart_effect.specs.Deed.{found, drains_first}
use Rattle.hart_effect.specs.Thread.{Thread}
use Rattle.page_cache.specs.PageCache.{frame_of, is_writable}
use Rattle.page_cache.specs.declared.frames.Frame.{Frame}
use Rattle.page_image.specs.PageImage.{PageImageView}
use Rattle.protect_table.specs.Protect.{permission_at}
use Rattle.compute_blade.specs.Blade.{HartView, BladeView, BladeEffect, request_for}
use Rattle.compute_blade.specs.Steps.{step_at, drain_of, after_step, blade_after_drain}
use Rattle.compute_blade.specs.declared.kept.Asked.{Asked}
use Rattle.tso_machine.specs.Replay.{labels}
use Rattle.tso_machine.specs.Scheduled.{label_at, running_label, step_label}
use Rattle.tso_machine.specs.State.{Setup, State}
use Rattle.tso_machine.specs.declared.labels.Label.{Label}
use Rattle.tso_machine.specs.declared.labels.Label.TheVariants as label
use Rattle.rack_core.specs.AtOnce.{access_at, next_access, AreHeldIn, ExecutesAtOnce, HoldsOldest, IsAtMostOne}
use Rattle.rack_core.proofs.Log.AtOnce.AtHand.{frames_at_hand, ExecutesThere, HoldsThere, executes-there, holds-there}
use Rattle.coherence.specs.Held.{Holdings}
use Rattle.rack_core.specs.BladeMoves.{hart_in}
use Rattle.rack_core.specs.Events.{HartDoes, Leads}
use Rattle.rack_core.specs.Rack.{RackView}
use Rattle.rack_core.specs.Seen.{frame_at, asked_at}
use Rattle.rack_core.specs.StandRuns.{GoesWith}
use Rattle.rack_core.specs.Stands.{machine_thread}
use Rattle.rack_core.specs.Waits.{IsNeeded, AreNeeded}
use Rattle.rack_core.proofs.Log.AtOnce.Steps.{NotesOne, NotesDrain, drain-alone, step-notes, drain-notes, executes, IsFreeToDrain, drains, step_drains}
use Rattle.rack_core.proofs.Moves.Blade.Handed.{did}
use Rattle.rack_core.proofs.Moves.Blade.Steps.{OfHart, for_hart-some}

-- ---- at most one label

label-one : (h : ℕ) (noted : List Note) → NotesOne h noted → IsAtMostOne h (labels noted)
label-one h noted (inl e) = inl (ap labels e)
label-one h noted (inr (inl e)) = inr (inl (ap labels e))
label-one h noted (inr (inr e)) = inr (inr (ap labels e))

-- of what a hart's blade does, where what the hart does notes at most one
one_of : (h : ℕ) (act : BladeView → Option BladeEffect) (thread : Option ThreadPlan) (old new : RackView) (noted : List Note)
    → ((blade : BladeView) (e : BladeEffect) → act blade ≡ Some e → NotesOne h e.noted) → HartDoes thread act old new noted → IsAtMostOne h (labels noted)
one_of h act None old new noted each does = absurd does
one_of h act (Some thread) old new noted each does =
    let d = did thread.blade act old new noted does in
    label-one h noted (subst (NotesOne h) (sym d.acts.notes) (each d.blade d.effect d.does))

pub step-one : (images : List Image) (h : ℕ) (blade : BladeView) (e : BladeEffect) → after_step images h blade ≡ Some e → NotesOne h e.noted
step-one images h blade e given =
    let o = for_hart-some blade h (λ plan hart. option_map (λ image. step_at hart.end h plan image blade hart) (slice_get images plan.image)) e given in
    by o (slice_get images o.plan.image) o.does
  where
    by : (o : OfHart blade h (λ plan hart. option_map (λ image. step_at hart.end h plan image blade hart) (slice_get images plan.image)) e)
        → (code : Option Image) → option_map (λ image. step_at o.hart.end h o.plan image blade o.hart) code ≡ Some e → NotesOne h e.noted
    by o None d = let never : ⊥ = cc in absurd never
    by o (Some image) d = subst (λ (x : BladeEffect). NotesOne h x.noted) (same_Some _ _ d) (step-notes o.hart.end h o.plan image blade o.hart)

pub drain-one : (h : ℕ) (blade : BladeView) (e : BladeEffect) → blade_after_drain h blade ≡ Some e → NotesDrain h e.noted
drain-one h blade e given =
    let o = for_hart-some blade h (λ plan hart. Some (drain_of h plan blade hart)) e given in
    subst (λ (x : BladeEffect). NotesDrain h x.noted) (same_Some _ _ o.does) (drain-notes h o.plan blade o.hart)

pub one_of_step : (images : List Image) (h : ℕ) (old new : RackView) (noted : List Note) → Leads images (Step h) old new noted → IsAtMostOne h (labels noted)
one_of_step images h old new noted given = one_of h (after_step images h) (slice_get old.plan.threads h) old new noted (step-one images h) given

pub one_of_drain : (images : List Image) (h : ℕ) (old new : RackView) (noted : List Note) → Leads images (Drain h) old new noted → IsAtMostOne h (labels noted)
one_of_drain images h old new noted given = one_of h (blade_after_drain h) (slice_get old.plan.threads h) old new noted
    (λ blade e does. drain-alone h e.noted (drain-one h blade e does)) given

-- ---- the hart of an event

-- hart h of the rack at its blade, and as a thread of the machine
record IsAtBlade (old : RackView) (flat : PageView → PageImageView) (m : State) (h : ℕ) (plan : ThreadPlan) (blade : BladeView) (hart : HartView) : Type 0 where
  there : slice_get old.blades plan.blade ≡ Some blade
  planned : slice_get blade.plan.threads h ≡ Some plan
  own : hart_in blade.harts h ≡ Some hart
  thread : slice_get m.threads h ≡ Some (machine_thread flat hart)

-- what the event notes of its step
record StepIs (images : List Image) (old : RackView) (flat : PageView → PageImageView) (m : State) (h : ℕ) (plan : ThreadPlan) (noted : List Note) : Type 0 where
  blade : BladeView
  hart : HartView
  image : Image
  at : IsAtBlade old flat m h plan blade hart
  code : slice_get images plan.image ≡ Some image
  notes : noted ≡ (step_at hart.end h plan image blade hart).noted

-- and of its drain
record DrainIs (old : RackView) (flat : PageView → PageImageView) (m : State) (h : ℕ) (plan : ThreadPlan) (noted : List Note) : Type 0 where
  blade : BladeView
  hart : HartView
  at : IsAtBlade old flat m h plan blade hart
  notes : noted ≡ (drain_of h plan blade hart).noted

at-blade : (images : List Image) (setup : Setup) (old : RackView) (flat : PageView → PageImageView) (m : State) → GoesWith images setup old flat m → (h : ℕ) (plan : ThreadPlan)
    → slice_get old.plan.threads h ≡ Some plan → (blade : BladeView) → slice_get old.blades plan.blade ≡ Some blade → (own_plan : ThreadPlan) (hart : HartView)
    → slice_get blade.plan.threads h ≡ Some own_plan → hart_in blade.harts h ≡ Some hart → (own_plan ≡ plan) × IsAtBlade old flat m h plan blade hart
at-blade images setup old flat m goes h plan planned blade there own_plan hart own_planned own =
    let here : slice_get blade.plan.threads h ≡ Some plan = ap (λ p. slice_get p.threads h) (goes.one.blades plan.blade blade there) ∙ planned in (
      same_Some _ _ (sym own_planned ∙ here),
      record { there = there; planned = here; own = own; thread = goes.stands.threads h hart (record { plan = plan; blade = blade; thread = planned; there = there; own = own }) },
    )

step_is : (images : List Image) (setup : Setup) (h : ℕ) (old new : RackView) (noted : List Note) (flat : PageView → PageImageView) (m : State) → GoesWith images setup old flat m
    → (plan : ThreadPlan) → slice_get old.plan.threads h ≡ Some plan → Leads images (Step h) old new noted → StepIs images old flat m h plan noted
step_is images setup h old new noted flat m goes plan planned given =
    let d = did plan.blade (after_step images h) old new noted (subst (λ t. HartDoes t (after_step images h) old new noted) planned given) in
    let o = for_hart-some d.blade h (λ plan hart. option_map (λ image. step_at hart.end h plan image d.blade hart) (slice_get images plan.image)) d.effect d.does in
    let its = at-blade images setup old flat m goes h plan planned d.blade d.there o.plan o.hart o.thread o.own in
    by d.blade d.effect o.hart its.1 d.acts.notes (slice_get images plan.image) refl
    (subst (λ (p : ThreadPlan). option_map (λ image. step_at o.hart.end h p image d.blade o.hart) (slice_get images p.image) ≡ Some d.effect) its.0 o.does)
  where
    by : (blade : BladeView) (e : BladeEffect) (hart : HartView) → IsAtBlade old flat m h plan blade hart → noted ≡ e.noted → (code : Option Image) → slice_get images plan.image ≡ code
        → option_map (λ image. step_at hart.end h plan image blade hart) code ≡ Some e → StepIs images old flat m h plan noted
    by blade e hart at notes None is d = let never : ⊥ = cc in absurd never
    by blade e hart at notes (Some image) is d =
        record { blade = blade; hart = hart; image = image; at = at; code = is; notes = notes ∙ ap (λ (x : BladeEffect). x.noted) (sym (same_Some _ _ d)) }

drain_is : (images : List Image) (setup : Setup) (h : ℕ) (old new : RackView) (noted : List Note) (flat : PageView → PageImageView) (m : State) → GoesWith images setup old flat m
    → (plan : ThreadPlan) → slice_get old.plan.threads h ≡ Some plan → Leads images (Drain h) old new noted → DrainIs old flat m h plan noted
drain_is images setup h old new noted flat m goes plan planned given =
    let d = did plan.blade (blade_after_drain h) old new noted (subst (λ t. HartDoes t (blade_after_drain h) old new noted) planned given) in
    let o = for_hart-some d.blade h (λ plan hart. Some (drain_of h plan d.blade hart)) d.effect d.does in
    let its = at-blade images setup old flat m goes h plan planned d.blade d.there o.plan o.hart o.thread o.own in
    let does = subst (λ (p : ThreadPlan). Some (drain_of h p d.blade o.hart) ≡ Some d.effect) its.0 o.does in
    record { blade = d.blade; hart = o.hart; at = its.1; notes = d.acts.notes ∙ ap (λ (x : BladeEffect). x.noted) (sym (same_Some _ _ does)) }

-- ---- what the machine's rule says of it

-- what is looked up of a thread of the machine, by the setup, is that of the hart
pub looked-up : {X : Type 0} (look : Image → Thread → ThreadPlan → Option X) (setup : Setup) (threads : List Thread) (h : ℕ) (plan : ThreadPlan) (image : Image) (thread : Thread)
    → slice_get setup.plan.threads h ≡ Some plan → slice_get setup.images plan.image ≡ Some image → slice_get threads h ≡ Some thread
    → option_and_then (λ plan. option_and_then (λ image. option_and_then (λ thread. look image thread plan) (slice_get threads h)) (slice_get setup.images plan.image)) (slice_get setup.plan.threads h)
    ≡ look image thread plan
looked-up look setup threads h plan image thread planned code there =
    ap (option_and_then (λ plan. option_and_then (λ image. option_and_then (λ thread. look image thread plan) (slice_get threads h)) (slice_get setup.images plan.image))) planned
    ∙ ap (option_and_then (λ image. option_and_then (λ thread. look image thread plan) (slice_get threads h))) code
    ∙ ap (option_and_then (λ thread. look image thread plan)) there

-- the setup has the rack's plan and images
record SetUp (images : List Image) (setup : Setup) (old : RackView) (h : ℕ) (plan : ThreadPlan) (image : Image) : Type 0 where
  planned : slice_get setup.plan.threads h ≡ Some plan
  code : slice_get setup.images plan.image ≡ Some image

set_up : (images : List Image) (setup : Setup) (old : RackView) (flat : PageView → PageImageView) (m : State) → GoesWith images setup old flat m → (h : ℕ) (plan : ThreadPlan) (image : Image)
    → slice_get old.plan.threads h ≡ Some plan → slice_get images plan.image ≡ Some image → SetUp images setup old h plan image
set_up images setup old flat m goes h plan image planned code = record {
  planned = ap (λ p. slice_get p.threads h) goes.plan ∙ planned;
  code = ap (λ all. slice_get all plan.image) goes.code ∙ code;
}

exec_drain : (h : ℕ) → (let x : Option Label = Some (label.Drain h) in x) ≡ Some (label.Exec h) → ⊥
exec_drain h e = cc

drain_exec : (h : ℕ) → (let x : Option Label = Some (label.Exec h) in x) ≡ Some (label.Drain h) → ⊥
drain_exec h e = cc

ended : (l : Label) → (let x : Option Label = None in x) ≡ Some l → ⊥
ended l e = cc

-- ---- an instruction

executes-now : (images : List Image) (setup : Setup) (h : ℕ) (old new : RackView) (noted : List Note) (flat : PageView → PageImageView) (m : State) → GoesWith images setup old flat m
    → AreNeeded images old → ExecutesThere setup old m h → Leads images (Step h) old new noted → labels noted ≡ label.Exec h ∷ []
executes-now images setup h old new noted flat m goes all now given =
    let plan = now.plan in
    let s = step_is images setup h old new noted flat m goes plan now.planned given in
    let set = set_up images setup old flat m goes h plan s.image now.planned s.code in
    let thread = machine_thread flat s.hart in
    let rule : label_at s.hart.end s.image thread plan.queue h ≡ Some (label.Exec h) =
    sym (looked-up (λ image thread plan. label_at thread.end image thread plan.queue h) setup m.threads h plan s.image thread set.planned set.code s.at.thread) ∙ now.step in
    let access : next_access setup m.threads h ≡ access_at s.hart.end s.image thread plan.domain =
    looked-up (λ image thread plan. access_at thread.end image thread plan.domain) setup m.threads h plan s.image thread set.planned set.code s.at.thread in
    let held : (λ page. frame_at old.blades plan.blade page) ≡ (λ page. frame_of page s.blade.cache.entries) = ap (λ o page. option_and_then (λ (b : BladeView). frame_of page b.cache.entries) o) s.at.there in
    let hand : frames_at_hand (λ page. frame_of page s.blade.cache.entries) (access_at s.hart.end s.image thread plan.domain) ≡ true = (λ i. frames_at_hand (sym held i) (sym access i)) ∙ now.at_hand in
    ap labels s.notes ∙ ap labels (by s.blade s.hart s.image s.at s.code s.hart.end refl rule hand)
  where
    by : (blade : BladeView) (hart : HartView) (image : Image) → IsAtBlade old flat m h now.plan blade hart → slice_get images now.plan.image ≡ Some image → (end : End) → hart.end ≡ end
        → label_at end image (machine_thread flat hart) now.plan.queue h ≡ Some (label.Exec h)
        → frames_at_hand (λ page. frame_of page blade.cache.entries) (access_at end image (machine_thread flat hart) now.plan.domain) ≡ true
        → (step_at end h now.plan image blade hart).noted ≡ note.Exec h ∷ []
    by blade hart image at code (Exit value) runs rule hand = absurd (ended (label.Exec h) rule)
    by blade hart image at code (Fault kind value pc) runs rule hand = absurd (ended (label.Exec h) rule)
    by blade hart image at code (Running pc) runs rule hand = ready (drains_first (found image hart.regs pc) hart.queue.stores now.plan.queue) refl rule where
      is : IsNeeded images blade
      is = all now.plan.blade blade at.there

      ready : (b : Bool) → drains_first (found image hart.regs pc) hart.queue.stores now.plan.queue ≡ b → Some (running_label b h) ≡ Some (label.Exec h)
          → (step_at (Running pc) h now.plan image blade hart).noted ≡ note.Exec h ∷ []
      ready true e r = absurd (exec_drain h r)
      ready false e r = executes images (permission_at old.switch.protect) blade h now.plan image pc hart (goes.sound now.plan.blade blade at.there) is
          (record { planned = at.planned; own = at.own; code = code; runs = runs })
          (ap (drains_first (found image hart.regs pc) hart.queue.stores) (is.queues h now.plan hart at.planned at.own).places ∙ e) hand

-- ---- the oldest store

none-mapped : {X Y : Type 0} (f : X → Y) (o : Option X) → option_map f o ≡ None → o ≡ None
none-mapped f None e = refl
none-mapped f (Some x) e = let never : ⊥ = cc in absurd never

-- a page that is held to write is not asked for
unasked : (images : List Image) (setup : Setup) (old : RackView) (flat : PageView → PageImageView) (m : State) → GoesWith images setup old flat m → (c : ℕ) (page : PageView)
    → is_writable (frame_at old.blades c page) ≡ true → asked_at old.blades c page ≡ None
unasked images setup old flat m goes c page held = by (frame_at old.blades c page) refl held where
  by : (o : Option Frame) → frame_at old.blades c page ≡ o → is_writable o ≡ true → asked_at old.blades c page ≡ None
  by None e w = let never : ⊥ = cc in absurd never
  by (Some frame) e w = (goes.frames c page frame e).alone w

free_to_drain : (images : List Image) (setup : Setup) (old : RackView) (flat : PageView → PageImageView) (m : State) (h : ℕ) → GoesWith images setup old flat m → (held : HoldsThere old.plan.threads old m h)
    → (blade : BladeView) (hart : HartView) → IsAtBlade old flat m h held.plan blade hart → IsFreeToDrain blade held.plan hart held.oldest held.newer
free_to_drain images setup old flat m h goes held blade hart at =
    let page = page_at (place_of held.plan.domain held.oldest.address) in
    let thread : held.thread ≡ machine_thread flat hart = same_Some _ _ (sym held.there ∙ at.thread) in
    record {
      queue = ap (λ (t : Thread). t.buffer) (sym thread) ∙ held.buffer;
      held = ap (λ o. is_writable (option_and_then (λ (b : BladeView). frame_of page b.cache.entries) o)) (sym at.there) ∙ held.held;
      unasked = none-mapped (λ (asked : Asked). asked.write) (request_for page blade.requests)
          (ap (option_and_then (λ (b : BladeView). option_map (λ (asked : Asked). asked.write) (request_for page b.requests))) (sym at.there)
          ∙ unasked images setup old flat m goes held.plan.blade page held.held);
    }

drains-now : (images : List Image) (setup : Setup) (h : ℕ) (old new : RackView) (noted : List Note) (flat : PageView → PageImageView) (m : State) → GoesWith images setup old flat m
    → HoldsThere old.plan.threads old m h → Leads images (Drain h) old new noted → labels noted ≡ label.Drain h ∷ []
drains-now images setup h old new noted flat m goes held given =
    let d = drain_is images setup h old new noted flat m goes held.plan held.planned given in
    ap labels d.notes ∙ ap labels (drains (permission_at old.switch.protect) d.blade h held.plan d.hart held.oldest held.newer (goes.sound held.plan.blade d.blade d.at.there)
    d.at.planned d.at.own (free_to_drain images setup old flat m h goes held d.blade d.hart d.at))

step-drains-now : (images : List Image) (setup : Setup) (h : ℕ) (old new : RackView) (noted : List Note) (flat : PageView → PageImageView) (m : State) → GoesWith images setup old flat m
    → AreNeeded images old → step_label setup m.threads h ≡ Some (label.Drain h) → HoldsThere old.plan.threads old m h → Leads images (Step h) old new noted → labels noted ≡ label.Drain h ∷ []
step-drains-now images setup h old new noted flat m goes all step held given =
    let plan = held.plan in
    let s = step_is images setup h old new noted flat m goes plan held.planned given in
    let set = set_up images setup old flat m goes h plan s.image held.planned s.code in
    let thread = machine_thread flat s.hart in
    let rule : label_at s.hart.end s.image thread plan.queue h ≡ Some (label.Drain h) =
    sym (looked-up (λ image thread plan. label_at thread.end image thread plan.queue h) setup m.threads h plan s.image thread set.planned set.code s.at.thread) ∙ step in
    ap labels s.notes ∙ ap labels (by s.blade s.hart s.image s.at s.code s.hart.end refl rule)
  where
    by : (blade : BladeView) (hart : HartView) (image : Image) → IsAtBlade old flat m h held.plan blade hart → slice_get images held.plan.image ≡ Some image → (end : End) → hart.end ≡ end
        → label_at end image (machine_thread flat hart) held.plan.queue h ≡ Some (label.Drain h) → (step_at end h held.plan image blade hart).noted ≡ note.Drain h ∷ []
    by blade hart image at code (Exit value) runs rule = absurd (ended (label.Drain h) rule)
    by blade hart image at code (Fault kind value pc) runs rule = absurd (ended (label.Drain h) rule)
    by blade hart image at code (Running pc) runs rule = first (drains_first (found image hart.regs pc) hart.queue.stores held.plan.queue) refl rule where
      is : IsNeeded images blade
      is = all held.plan.blade blade at.there

      first : (b : Bool) → drains_first (found image hart.regs pc) hart.queue.stores held.plan.queue ≡ b → Some (running_label b h) ≡ Some (label.Drain h)
          → (step_at (Running pc) h held.plan image blade hart).noted ≡ note.Drain h ∷ []
      first false e r = absurd (drain_exec h r)
      first true e r = step_drains images (permission_at old.switch.protect) blade h held.plan image pc hart held.oldest held.newer (goes.sound held.plan.blade blade at.there) is
          (record { planned = at.planned; own = at.own; code = code; runs = runs })
          (ap (drains_first (found image hart.regs pc) hart.queue.stores) (is.queues h held.plan hart at.planned at.own).places ∙ e)
          (free_to_drain images setup old flat m h goes held blade hart at)

-- ---- by what is held in the rack

pub executes_at_once : (images : List Image) (setup : Setup) (h : ℕ) (old new : RackView) (noted : List Note) (flat : PageView → PageImageView) (m : State) (held : Holdings) → GoesWith images setup old flat m
    → AreNeeded images old → AreHeldIn old held → ExecutesAtOnce setup held m h → Leads images (Step h) old new noted → labels noted ≡ label.Exec h ∷ []
executes_at_once images setup h old new noted flat m held goes all are now given =
    executes-now images setup h old new noted flat m goes all (executes-there setup old held m h goes.plan are now) given

pub step_drains_at_once : (images : List Image) (setup : Setup) (h : ℕ) (old new : RackView) (noted : List Note) (flat : PageView → PageImageView) (m : State) (held : Holdings) → GoesWith images setup old flat m
    → AreNeeded images old → step_label setup m.threads h ≡ Some (label.Drain h) → AreHeldIn old held → HoldsOldest setup held m h → Leads images (Step h) old new noted
    → labels noted ≡ label.Drain h ∷ []
step_drains_at_once images setup h old new noted flat m held goes all step are now given =
    step-drains-now images setup h old new noted flat m goes all step (holds-there setup old held m h goes.plan are now) given

pub drains_at_once : (images : List Image) (setup : Setup) (h : ℕ) (old new : RackView) (noted : List Note) (flat : PageView → PageImageView) (m : State) (held : Holdings) → GoesWith images setup old flat m
    → AreHeldIn old held → HoldsOldest setup held m h → Leads images (Drain h) old new noted → labels noted ≡ label.Drain h ∷ []
drains_at_once images setup h old new noted flat m held goes are now given = drains-now images setup h old new noted flat m goes (holds-there setup old held m h goes.plan are now) given
