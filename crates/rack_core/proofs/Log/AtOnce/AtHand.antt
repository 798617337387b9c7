-- What is at hand, by the frames of a blade and by what is held in it.
use Rattle.std.proofs.Common.{◌≡◌, ◌∙◌, ℕ, Bool, true, ap, sym, refl, subst, List, slice_get, Option, Some, None}
use Rattle.std.specs.Prelude.{not, ◌||◌, is_some}
use Rattle.mind_base.specs.Page.{PageView}
use Rattle.mind_base.specs.Place.{place_of, page_at}
use Rattle.mind_base.specs.declared.plans.RackPlan.{RackPlan}
use Rattle.mind_base.specs.declared.plans.ThreadPlan.{ThreadPlan}
use Rattle.page_cache.specs.PageCache.{is_writable}
use Rattle.hart_effect.specs.Access.{AccessView, is_aligned}
use Rattle.hart_effect.specs.declared.accesses.AccessKind.{AccessKind}
use Rattle.hart_effect.specs.declared.accesses.AccessKind.TheVariants.{Reads, WritesLater, WritesAtOnce}
use Rattle.page_cache.specs.declared.frames.Frame.{Frame}
use Rattle.coherence.specs.Held.{Holdings}
use Rattle.coherence.proofs.Callers.{writable_of}
use Rattle.tso_machine.specs.Scheduled.{step_label}
use Rattle.tso_machine.specs.State.{Setup, State}
use Rattle.tso_machine.specs.declared.labels.Label.TheVariants as label
use Rattle.rack_core.specs.AtOnce.{next_access, is_held_as, is_at_hand, AreHeldIn, ExecutesAtOnce, OldestStore, HoldsOldest}
use Rattle.rack_core.specs.Rack.{RackView}
use Rattle.rack_core.specs.Seen.{frame_at}

-- ---- by frames

-- the frame holds its page as the access needs it
abbrev pub is_held_for : AccessKind → Option Frame → Bool
is_held_for Reads held = is_some held
is_held_for WritesLater held = is_some held
is_held_for WritesAtOnce held = is_writable held

abbrev pub frames_at_hand : (PageView → Option Frame) → Option AccessView → Bool
frames_at_hand held None = true
frames_at_hand held (Some access) = not (is_aligned access) || is_held_for access.kind (held (page_at (place_of access.domain access.address)))

-- what a step executes, and the oldest store of a thread, by the frames of the rack
pub record ExecutesThere (setup : Setup) (rack : RackView) (m : State) (h : ℕ) : Type 0 where
  pub plan : ThreadPlan
  pub planned : slice_get rack.plan.threads h ≡ Some plan
  pub step : step_label setup m.threads h ≡ Some (label.Exec h)
  pub at_hand : frames_at_hand (frame_at rack.blades plan.blade) (next_access setup m.threads h) ≡ true

pub record HoldsThere (threads : List ThreadPlan) (rack : RackView) (m : State) (h : ℕ) : Type 0 where
  pub store : OldestStore threads m h
  pub open store use *
  pub held : is_writable (frame_at rack.blades plan.blade (page_at (place_of plan.domain oldest.address))) ≡ true

-- ---- by what is held

pub for-held : (kind : AccessKind) (frame : Option Frame) → is_held_as kind (writable_of frame) ≡ is_held_for kind frame
for-held Reads None = refl
for-held Reads (Some frame) = refl
for-held WritesLater None = refl
for-held WritesLater (Some frame) = refl
for-held WritesAtOnce None = refl
for-held WritesAtOnce (Some frame) = refl

at-hand : (frames : PageView → Option Frame) (held : PageView → Option Bool) → ((page : PageView) → held page ≡ writable_of (frames page)) → (access : Option AccessView)
    → is_at_hand held access ≡ true → frames_at_hand frames access ≡ true
at-hand frames held same None hand = refl
at-hand frames held same (Some access) hand =
    let page = page_at (place_of access.domain access.address) in
    sym (ap (λ b. not (is_aligned access) || b) (ap (is_held_as access.kind) (same page) ∙ for-held access.kind (frames page))) ∙ hand

to-write : (frame : Option Frame) → writable_of frame ≡ Some true → is_writable frame ≡ true
to-write None e = let never : ⊥ = cc in absurd never
to-write (Some frame) e = let its : frame.writable ≡ true = cc in its

pub executes-there : (setup : Setup) (rack : RackView) (held : Holdings) (m : State) (h : ℕ) → setup.plan ≡ rack.plan → AreHeldIn rack held → ExecutesAtOnce setup held m h → ExecutesThere setup rack m h
executes-there setup rack held m h same are now = record {
  plan = now.plan;
  planned = ap (λ p. slice_get p.threads h) (sym same) ∙ now.planned;
  step = now.step;
  at_hand = at-hand (frame_at rack.blades now.plan.blade) (held now.plan.blade) (are now.plan.blade) (next_access setup m.threads h) now.at_hand;
}

pub holds-there : (setup : Setup) (rack : RackView) (held : Holdings) (m : State) (h : ℕ) → setup.plan ≡ rack.plan → AreHeldIn rack held → HoldsOldest setup held m h → HoldsThere rack.plan.threads rack m h
holds-there setup rack held m h same are now =
    let page = page_at (place_of now.plan.domain now.oldest.address) in
    let P : RackPlan → Type 0 = λ p. HoldsThere p.threads rack m h in
    subst P same (record { store = now.store; held = to-write (frame_at rack.blades now.plan.blade page) (sym (are now.plan.blade page) ∙ now.to_write) })
