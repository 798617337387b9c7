-- Between a page that came and what waited for it: the request has ended, and its hart waits no longer.
use Rattle.std.proofs.Common.{◌≡◌, ℕ, zero, suc, ◌==◌, ◌∙◌, Bool, true, false, ap, sym, refl, subst, List, [], ◌∷◌, ◌++◌, Some, slice_set}
use Rattle.std.proofs.lemmas.Bool.{eqb-true}
use Rattle.mind_base.specs.Page.{PageView}
use Rattle.mind_base.specs.declared.images.Image.{Image}
use Rattle.mind_base.specs.declared.notes.Note.TheVariants as note
use Rattle.page_cache.specs.declared.frames.Put.{Put}
use Rattle.page_cache.specs.declared.frames.Put.TheVariants.{Fresh, Replaced, Pushed}
use Rattle.page_image.specs.PageImage.{PageImageView}
use Rattle.compute_blade.specs.Blade.{HartView, BladeView}
use Rattle.compute_blade.specs.Messages.{awake}
use Rattle.compute_blade.specs.Pages.{noted_out}
use Rattle.compute_blade.specs.declared.kept.Waits.{Waits}
use Rattle.compute_blade.specs.declared.kept.Waits.TheVariants.{Step, Drain}
use Rattle.coherence.specs.Facts.{AreFrames}
use Rattle.tso_machine.specs.Replay.{labels}
use Rattle.tso_machine.specs.State.{Setup, State}
use Rattle.rack_core.specs.BladeMoves.{AreBladesSound}
use Rattle.rack_core.specs.Rack.{RackView}
use Rattle.rack_core.specs.Seen.{seen}
use Rattle.rack_core.specs.Stands.{IsHartAt, machine_thread}
use Rattle.rack_core.specs.StandRuns.{ArePending, GoesWith, BladeBecame}
use Rattle.rack_core.proofs.Machine.Blades.{plan-one}
use Rattle.rack_core.proofs.Machine.Changes.{OneChanged, one-changed}
use Rattle.rack_core.proofs.Machine.Steps.{stands-same}

-- a page that came, and one that it pushed out, have no label
pub taken-silent : (number : ℕ) (page : PageView) (writable : Bool) (put : Put) → labels (noted_out number put ++ note.Take number page writable ∷ []) ≡ []
taken-silent number page writable Fresh = refl
taken-silent number page writable (Replaced old) = refl
taken-silent number page writable (Pushed out old) = refl

-- what is put twice is there as it was put last
pub set-twice : {X : Type 0} (xs : List X) (i : ℕ) (x y : X) → slice_set (slice_set xs i x) i y ≡ slice_set xs i y
set-twice [] i x y = refl
set-twice (z ∷ xs) zero x y = refl
set-twice (z ∷ xs) (suc i) x y = ap (λ zs. z ∷ zs) (set-twice xs i x y)

-- a hart that waits no longer is as it was for the machine
pub awake-thread : (flat : PageView → PageImageView) (waits : Waits) (hart : HartView) → machine_thread flat (awake waits hart) ≡ machine_thread flat hart
awake-thread flat Step hart = refl
awake-thread flat Drain hart = refl

awake-stores : (waits : Waits) (hart : HartView) → (awake waits hart).stores ≡ hart.stores
awake-stores Step hart = refl
awake-stores Drain hart = refl

awake-reserved : (waits : Waits) (hart : HartView) → (awake waits hart).reserved ≡ hart.reserved
awake-reserved Step hart = refl
awake-reserved Drain hart = refl

awake-waiting : (waits : Waits) (hart : HartView) → (awake waits hart).queue.stores ≡ hart.queue.stores
awake-waiting Step hart = refl
awake-waiting Drain hart = refl

-- what is true of all harts is true of them after one changed
pub one-of : (P : HartView → Type 0) (h : ℕ) (was now : HartView) (old new : RackView) → OneChanged h was now old new → ((n : ℕ) (hart : HartView) → IsHartAt old n hart → P hart) → P now
    → (n : ℕ) (hart : HartView) → IsHartAt new n hart → P hart
one-of P h was now old new one all its n hart at = by (n == h) refl where
  by : (b : Bool) → (n == h) ≡ b → P hart
  by true s = subst P (sym (one.own hart (subst (λ k. IsHartAt new k hart) (eqb-true n h s) at))) its
  by false s = all n hart (one.others n hart s at)

-- The rack in which hart h's blade has these pages and requests, and the hart waits no longer, goes with the same
-- state, where it has coherent frames and sound blades.
pub mid-goes : (images : List Image) (setup : Setup) (old mid : RackView) (flat : PageView → PageImageView) (m : State) → GoesWith images setup old flat m → (h : ℕ) (hart : HartView) (at : IsHartAt old h hart)
    → (waits : Waits) (blade : BladeView) → BladeBecame at.plan.blade blade old mid → blade.plan ≡ at.blade.plan → blade.harts ≡ slice_set at.blade.harts h (Some (awake waits hart))
    → AreFrames (seen mid flat) → AreBladesSound mid → GoesWith images setup mid flat m
mid-goes images setup old mid flat m goes h hart at waits blade became plan harts frames sound =
    let now = awake waits hart in
    let one = one-changed h hart now old mid at blade became.plan became.blades harts in
    record {
      plan = goes.plan ∙ sym became.plan;
      code = goes.code;
      one = plan-one at.plan.blade blade old mid became (plan ∙ goes.one.blades at.plan.blade at.blade at.there) goes.one;
      frames = frames;
      sound = sound;
      pending = one-of (λ x. ArePending x.queue.stores) h hart now old mid one goes.pending (subst ArePending (sym (awake-waiting waits hart)) (goes.pending h hart at));
      stands = stands-same h hart now old mid flat m
          (record { one = one; counts = awake-stores waits hart; keeps = λ r k. goes.stands.kept h hart r at (sym (awake-reserved waits hart) ∙ k); perms = became.perms }) goes.stands
          (awake-thread flat waits hart);
    }

-- what blade c became from the rack between, it became from the first one
pub mid-became : (c : ℕ) (between blade : BladeView) (old mid new : RackView) → BladeBecame c between old mid → BladeBecame c blade old new → BladeBecame c blade mid new
mid-became c between blade old mid new first whole = record {
  plan = whole.plan ∙ sym first.plan;
  blades = whole.blades ∙ sym (ap (λ all. slice_set all c blade) first.blades ∙ set-twice old.blades c between blade);
  perms = whole.perms ∙ sym first.perms;
}
