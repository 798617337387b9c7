-- What a hart does at its blade leads the machine on: by the label that the blade noted, or by none.
use Rattle.std.proofs.Common.{◌≡◌, arith, ℕ, zero, suc, ◌+◌, ◌==◌, ◌∙◌, Bool, true, false, ap, sym, refl, subst, List, [], ◌∷◌, ◌++◌, Option, Some, None, slice_get, slice_set, unwrap_or}
use Rattle.std.specs.Prelude.{if◌then◌else◌}
use Rattle.std.proofs.lemmas.Bool.{eqb-true}
use Rattle.std.proofs.lemmas.Option.{same_Some}
use Rattle.std.specs.List.{IsDistinct}
use Rattle.std.specs.Map.{keys_of}
use Rattle.mind_base.specs.Fit.{IsFit}
use Rattle.mind_base.specs.Page.{PageView}
use Rattle.mind_base.specs.Pending.{PendingView, IsPending}
use Rattle.mind_base.specs.declared.ends.End.{End}
use Rattle.mind_base.specs.declared.ends.End.TheVariants.{Running, Exit, Fault}
use Rattle.mind_base.specs.declared.images.Image.{Image}
use Rattle.mind_base.specs.declared.notes.Note.TheVariants as note
use Rattle.hart_effect.specs.Access.{Around}
use Rattle.hart_effect.specs.Deed.{Deed, Alone, Storing, found, carried_out, drains_first}
use Rattle.mind_base.specs.Place.{place_of, page_at}
use Rattle.hart_effect.specs.Thread.{Thread}
use Rattle.hart_effect.specs.declared.finds.Found.{Found}
use Rattle.page_cache.specs.PageCache.{frame_of, same_page, is_writable}
use Rattle.page_cache.specs.declared.frames.Frame.{Frame}
use Rattle.page_image.specs.PageImage.{PageImageView}
use Rattle.compute_blade.specs.Blade.{HartView, BladeView, BladeEffect, with_hart, is_asked, only}
use Rattle.compute_blade.specs.Frames.{around_held, thread_of}
use Rattle.compute_blade.specs.Steps.{need_in, serves, next_tag, frames_with, frames_after, hart_after, performed_by, performed, asking, waiting, drained, draining_by, drain_of, stepping_at, stepping_by, step_at, one_more_store, blade_done_by}
use Rattle.compute_blade.specs.declared.kept.Need.{Need}
use Rattle.compute_blade.specs.declared.kept.Reservation.{Reservation}
use Rattle.compute_blade.specs.declared.kept.Waits.{Waits}
use Rattle.compute_blade.specs.declared.kept.Waits.TheVariants.{Step, Drain}
use Rattle.tso_machine.specs.Replay.{Whole, advanced, labels, replay}
use Rattle.tso_machine.specs.State.{Setup, State}
use Rattle.tso_machine.specs.Step.{done_by}
use Rattle.wire_msg.specs.declared.msgs.Msg.TheVariants.{Get}
use Rattle.rack_core.specs.BladeMoves.{hart_in, image_or}
use Rattle.rack_core.specs.Rack.{RackView}
use Rattle.rack_core.specs.Stands.{IsHartAt, RackStandsFor, machine_thread}
use Rattle.rack_core.specs.StandRuns.{ArePending, AreQueuesPending, AreCounted, HasOnePlan, GoesWith, BladeBecame, AreNewest, LeadsMachine}
use Rattle.rack_core.proofs.Moves.Blade.Deeds.{storing}
use Rattle.rack_core.proofs.Moves.Blade.Sound.{hart_in-set}
use Rattle.rack_core.proofs.Lists.Lookups.{found-used, slice_get-set, slice_get-set_other}
use Rattle.rack_core.proofs.Machine.Changes.{OneChanged, one-changed, has-place}
use Rattle.rack_core.proofs.Machine.Harts.{Entries, IsHeld, HoldsFor, held-coherent, holds-serving, drain-stands}
use Rattle.rack_core.proofs.Machine.Images.{AreHeld, newest-same, newest-stored}
use Rattle.rack_core.proofs.Machine.Keeps.{by_thread, exec-done}
use Rattle.rack_core.proofs.Machine.Queues.{IsPendingDeed, found-size, pending-done}
use Rattle.rack_core.proofs.Machine.Steps.{stands-alone, stands-same, kept-past, kept-was}
use Rattle.rack_core.proofs.Machine.Stores.{stands-stored}
use Rattle.rack_core.proofs.Machine.Bytes.{flat_with}
use Rattle.rack_core.proofs.Machine.Tags.{hart-below}

-- what a blade did leads the machine on, whatever the new rack is and whatever its newest images are called
abbrev pub Runs : List Image → Setup → RackView → (PageView → PageImageView) → State → ℕ → BladeEffect → Type 0
Runs images setup old flat m c e = (new : RackView) (newer : PageView → PageImageView) → BladeBecame c e.blade old new → AreCounted new → AreNewest e.blade.cache.entries flat newer
    → LeadsMachine setup m e.noted new newer

-- ---- nothing happens

-- an element that is put where it stands
pub set-same : {X : Type 0} (xs : List X) (i : ℕ) (x : X) → slice_get xs i ≡ Some x → xs ≡ slice_set xs i x
set-same [] i x e = let never : ⊥ = cc in absurd never
set-same (y ∷ xs) zero x e = by e where
  by : Some y ≡ Some x → y ∷ xs ≡ x ∷ xs
  by e = ap (λ o. (unwrap_or o x) ∷ xs) e
set-same (y ∷ xs) (suc i) x e = ap (λ ys. y ∷ ys) (set-same xs i x e)

-- where nothing stands, nothing is put
set-none : {X : Type 0} (xs : List X) (i : ℕ) (x : X) → slice_get xs i ≡ None → slice_get (slice_set xs i x) i ≡ None
set-none [] i x e = refl
set-none (y ∷ xs) zero x e = let never : ⊥ = cc in absurd never
set-none (y ∷ xs) (suc i) x e = set-none xs i x e

-- the pages of a hart's blade hold their newest images
are-held : (images : List Image) (setup : Setup) (old : RackView) (flat : PageView → PageImageView) (m : State) → GoesWith images setup old flat m → (h : ℕ) (hart : HartView) (at : IsHartAt old h hart)
    → AreHeld at.blade.cache.entries flat
are-held images setup old flat m goes h hart at page frame e =
    let held = held-coherent old flat goes.frames h hart at page frame e in
    ap (λ f. f.image) (same_Some _ _ (sym e ∙ held.held)) ∙ held.newest

-- all queues hold what they may when that of the hart that changed does
queues-one : (h : ℕ) (was now : HartView) (old new : RackView) → OneChanged h was now old new → AreQueuesPending old → ArePending now.queue.stores → AreQueuesPending new
queues-one h was now old new one all its n hart at = by (n == h) refl where
  by : (b : Bool) → (n == h) ≡ b → ArePending hart.queue.stores
  by true s = subst (λ (x : HartView). ArePending x.queue.stores) (sym (one.own hart (subst (λ k. IsHartAt new k hart) (eqb-true n h s) at))) its
  by false s = all n hart (one.others n hart s at)

-- all blades have the rack's plan when the one that changed has
pub plan-one : (c : ℕ) (blade : BladeView) (old new : RackView) → BladeBecame c blade old new → blade.plan ≡ old.plan → HasOnePlan old → HasOnePlan new
plan-one c blade old new became plan all = record { fit = subst IsFit (sym became.plan) all.fit; blades = each } where
  each : (n : ℕ) (other : BladeView) → slice_get new.blades n ≡ Some other → other.plan ≡ new.plan
  each n other is = by (n == c) refl (slice_get old.blades n) refl ∙ sym became.plan where
    put : slice_get (slice_set old.blades c blade) n ≡ Some other
    put = ap (λ all. slice_get all n) (sym became.blades) ∙ is

    by : (b : Bool) → (n == c) ≡ b → (there : Option BladeView) → slice_get old.blades n ≡ there → other.plan ≡ old.plan
    by false s there e = all.blades n other (sym (slice_get-set_other old.blades c blade n s) ∙ put)
    by true s (Some was) e =
        let number : n ≡ c = eqb-true n c s in
        let here : slice_get (slice_set old.blades c blade) n ≡ Some blade = ap (slice_get (slice_set old.blades c blade)) number ∙ slice_get-set old.blades c was blade (ap (slice_get old.blades) (sym number) ∙ e) in
        ap (λ (b : BladeView). b.plan) (same_Some _ _ (sym put ∙ here)) ∙ plan
    by true s None e =
        let number : n ≡ c = eqb-true n c s in
        let none : slice_get (slice_set old.blades c blade) c ≡ None = set-none old.blades c blade (ap (slice_get old.blades) (sym number) ∙ e) in
        let both = sym none ∙ ap (slice_get (slice_set old.blades c blade)) (sym number) ∙ put in
        let never : ⊥ = cc in absurd never

-- the hart that changed is in its place
at-now : (h : ℕ) (was now : HartView) (old new : RackView) (at : IsHartAt old h was) (blade : BladeView) → new.plan ≡ old.plan → new.blades ≡ slice_set old.blades at.plan.blade blade
    → blade.harts ≡ slice_set at.blade.harts h (Some now) → IsHartAt new h now
at-now h was now old new at blade plan blades harts = record {
  plan = at.plan;
  blade = blade;
  thread = ap (λ p. slice_get p.threads h) plan ∙ at.thread;
  there = ap (λ all. slice_get all at.plan.blade) blades ∙ slice_get-set old.blades at.plan.blade at.blade blade at.there;
  own = ap (λ all. hart_in all h) harts ∙ hart_in-set at.blade.harts h was now at.own;
}

-- a hart that changed in nothing that the machine sees
quiet : (images : List Image) (setup : Setup) (old : RackView) (flat : PageView → PageImageView) (m : State) → GoesWith images setup old flat m → (h : ℕ) (hart : HartView) (at : IsHartAt old h hart)
    → (now : HartView) (e : BladeEffect) → e.blade.plan ≡ at.blade.plan → e.blade.harts ≡ slice_set at.blade.harts h (Some now) → e.blade.cache.entries ≡ at.blade.cache.entries → e.noted ≡ []
    → machine_thread flat now ≡ machine_thread flat hart → now.queue.stores ≡ hart.queue.stores → now.stores ≡ hart.stores → now.reserved ≡ hart.reserved
    → Runs images setup old flat m at.plan.blade e
quiet images setup old flat m goes h hart at now e plan harts entries noted thread stores counts reserved new newer became counted newest =
    let one = one-changed h hart now old new at e.blade became.plan became.blades harts in
    let same : newer ≡ flat = newest-same at.blade.cache.entries e.blade.cache.entries flat newer (are-held images setup old flat m goes h hart at) (λ page. ap (frame_of page) entries) newest in
    record {
      next = m;
      run = ap (λ n. replay setup m (labels n)) noted;
      stands = subst (λ f. RackStandsFor new f m) (sym same) (stands-same h hart now old new flat m
          (record { one = one; counts = counts; keeps = λ r k. goes.stands.kept h hart r at (sym reserved ∙ k); perms = became.perms }) goes.stands thread);
      pending = queues-one h hart now old new one goes.pending (subst ArePending (sym stores) (goes.pending h hart at));
      one = plan-one at.plan.blade e.blade old new became (plan ∙ goes.one.blades at.plan.blade at.blade at.there) goes.one;
    }

pub idles : (images : List Image) (setup : Setup) (old : RackView) (flat : PageView → PageImageView) (m : State) → GoesWith images setup old flat m → (h : ℕ) (hart : HartView) (at : IsHartAt old h hart)
    → Runs images setup old flat m at.plan.blade (only at.blade)
idles images setup old flat m goes h hart at = quiet images setup old flat m goes h hart at hart (only at.blade) refl
    (set-same at.blade.harts h (Some hart) (has-place (slice_get at.blade.harts h) hart at.own)) refl refl refl refl refl refl

-- a page is asked for
pub asks : (images : List Image) (setup : Setup) (old : RackView) (flat : PageView → PageImageView) (m : State) → GoesWith images setup old flat m → (h : ℕ) (hart : HartView) (at : IsHartAt old h hart)
    → (waits : Waits) (need : Need) → Runs images setup old flat m at.plan.blade (asking h waits need at.blade hart)
asks images setup old flat m goes h hart at waits need = by (is_asked need.page at.blade.requests) waits where
  asking-it : Waits → BladeEffect
  asking-it waits = record {
    blade = with_hart h (waiting waits hart) (record at.blade {
      requests = at.blade.requests ++ record { page = need.page; write = need.write; hart = h; waits = waits } ∷ [];
    });
    sent = Get need.page need.write ∷ [];
    noted = [];
  }

  by : (b : Bool) (waits : Waits) → Runs images setup old flat m at.plan.blade (if b then only at.blade else asking-it waits)
  by true waits = idles images setup old flat m goes h hart at
  by false Step = quiet images setup old flat m goes h hart at (waiting Step hart) (asking-it Step) refl refl refl refl refl refl refl refl
  by false Drain = quiet images setup old flat m goes h hart at (waiting Drain hart) (asking-it Drain) refl refl refl refl refl refl refl refl

-- ---- a store takes effect

-- hart h let a store take effect in a page that its blade holds, and the machine did so by a label
stores-run : (images : List Image) (setup : Setup) (old : RackView) (flat : PageView → PageImageView) (m : State) → GoesWith images setup old flat m → (h : ℕ) (hart : HartView) (at : IsHartAt old h hart)
    → (now : HartView) (store : PendingView) (e : BladeEffect) → e.blade.plan ≡ at.blade.plan → e.blade.harts ≡ slice_set at.blade.harts h (Some now)
    → e.blade.cache.entries ≡ frames_with at.plan.domain store (next_tag h hart.stores) at.blade.cache.entries
    → IsHeld old flat at.blade.cache.entries (page_at (place_of at.plan.domain store.address))
    → now.stores ≡ hart.stores + 1 → ((r : Reservation) → now.reserved ≡ Some r → hart.reserved ≡ Some r)
    → IsPending store.address store.size → ArePending now.queue.stores
    → replay setup m (labels e.noted) ≡ Whole (done_by h at.plan.domain m (Storing (machine_thread flat now) store))
    → Runs images setup old flat m at.plan.blade e
stores-run images setup old flat m goes h hart at now store e plan harts entries held counts keeps pending queue run new newer became counted newest =
    let one = one-changed h hart now old new at e.blade became.plan became.blades harts in
    let fits = counted h now (at-now h hart now old new at e.blade became.plan became.blades harts) in
    let sound = goes.sound at.plan.blade at.blade at.there in
    let same : newer ≡ flat_with at.plan.domain store (next_tag h hart.stores) flat =
    newest-stored at.blade.cache.entries at.plan.domain store (next_tag h hart.stores) held.frame flat newer (are-held images setup old flat m goes h hart at) sound.cache.distinct held.held
    (λ page. newest page ∙ ap (λ all. image_or (flat page) (frame_of page all)) entries) in
    record {
      next = done_by h at.plan.domain m (Storing (machine_thread flat now) store);
      run = run;
      stands = subst (λ f. RackStandsFor new f (done_by h at.plan.domain m (Storing (machine_thread flat now) store))) (sym same)
          (stands-stored h at.plan.domain hart now store old new flat m
          (record { one = one; below = hart-below old h hart goes.one.fit at; unspent = (let more : now.stores ≡ hart.stores + 1 = counts in omega arith); counts = counts; keeps = keeps; pending = pending; perms = became.perms }) goes.stands);
      pending = queues-one h hart now old new one goes.pending queue;
      one = plan-one at.plan.blade e.blade old new became (plan ∙ goes.one.blades at.plan.blade at.blade at.there) goes.one;
    }

-- ---- an instruction

-- the hart runs, and its image stands at its plan's place
pub record Executes (images : List Image) (old : RackView) (flat : PageView → PageImageView) (h : ℕ) (hart : HartView) (at : IsHartAt old h hart) (image : Image) (pc : ℕ) : Type 0 where
  pub code : slice_get images at.plan.image ≡ Some image
  pub runs : hart.end ≡ Running pc
  pub holds : HoldsFor old flat at.blade.cache.entries (found image hart.regs pc) at.plan.domain

-- an entry that is used is found as it was
used-found : (need : Option Need) (end : End) (entries : Entries) → IsDistinct same_page (keys_of entries)
    → (page : PageView) → frame_of page (frames_after need end entries) ≡ frame_of page entries
used-found None (Running pc) entries apart page = refl
used-found (Some need) (Running pc) entries apart page = found-used need.page entries apart page
used-found need (Exit value) entries apart page = refl
used-found need (Fault kind value pc) entries apart page = refl

-- an instruction is performed
pub performs-run : (images : List Image) (setup : Setup) (old : RackView) (flat : PageView → PageImageView) (m : State) → GoesWith images setup old flat m → (h : ℕ) (hart : HartView) (at : IsHartAt old h hart)
    → (image : Image) (pc : ℕ) → Executes images old flat h hart at image pc → Runs images setup old flat m at.plan.blade (performed h at.plan (found image hart.regs pc) pc at.blade hart)
unfolding IsPendingDeed
performs-run images setup old flat m goes h hart at image pc exec = by (carried_out finds around pc thread) refl where
  finds : Found
  finds = found image hart.regs pc

  around : Around
  around = around_held at.blade.cache.entries h at.plan.domain

  thread : Thread
  thread = thread_of at.blade.cache.entries hart

  done : (deed : Deed) → carried_out finds around pc thread ≡ Some deed
      → replay setup m (labels (note.Exec h ∷ []))
      ≡ Whole (done_by h at.plan.domain m (by_thread (machine_thread flat (hart_after at.plan.domain finds at.blade.cache.entries hart deed)) deed))
  done deed e = ap (advanced 0 m) (exec-done old flat m goes.stands setup goes.plan h hart at image (ap (λ all. slice_get all at.plan.image) goes.code ∙ exec.code) pc exec.runs exec.holds deed e)

  fits : (deed : Deed) → carried_out finds around pc thread ≡ Some deed → IsPendingDeed deed
  fits deed e = pending-done finds around pc thread deed (found-size image hart.regs pc) (goes.pending h hart at) e

  alone : (new : Thread) → carried_out finds around pc thread ≡ Some (Alone new) → Runs images setup old flat m at.plan.blade (performed_by (Some (Alone new)) h at.plan finds at.blade hart)
  alone new e rack newer became counted newest =
      let now = hart_after at.plan.domain finds at.blade.cache.entries hart (Alone new) in
      let blade = blade_done_by h at.plan finds at.blade hart (Alone new) in
      let one = one-changed h hart now old rack at blade became.plan became.blades refl in
      let sound = goes.sound at.plan.blade at.blade at.there in
      let same : newer ≡ flat = newest-same at.blade.cache.entries blade.cache.entries flat newer (are-held images setup old flat m goes h hart at)
      (used-found (need_in finds at.plan.domain) new.end at.blade.cache.entries sound.cache.distinct) newest in
      record {
        next = done_by h at.plan.domain m (Alone (machine_thread flat now));
        run = done (Alone new) e;
        stands = subst (λ f. RackStandsFor rack f (done_by h at.plan.domain m (Alone (machine_thread flat now)))) (sym same)
            (stands-alone h at.plan.domain hart now old rack flat m
            (record { one = one; counts = refl; keeps = kept-past old flat m goes.stands goes.frames h hart at finds at.plan.domain new.end; perms = became.perms }) goes.stands);
        pending = queues-one h hart now old rack one goes.pending (fits (Alone new) e);
        one = plan-one at.plan.blade blade old rack became (goes.one.blades at.plan.blade at.blade at.there) goes.one;
      }

  stored : (new : Thread) (store : PendingView) → carried_out finds around pc thread ≡ Some (Storing new store)
      → Runs images setup old flat m at.plan.blade (performed_by (Some (Storing new store)) h at.plan finds at.blade hart)
  stored new store e =
      let its = storing finds around pc thread new store e in
      let fit = fits (Storing new store) e in
      stores-run images setup old flat m goes h hart at (hart_after at.plan.domain finds at.blade.cache.entries hart (Storing new store)) store
      (performed_by (Some (Storing new store)) h at.plan finds at.blade hart) refl refl refl (exec.holds (record { page = page_at (place_of at.plan.domain store.address); write = true }) its.needs) refl
      (kept-was finds at.plan.domain at.blade.cache.entries new.end hart.reserved its.writes) fit.1 fit.0 (done (Storing new store) e)

  by : (deed : Option Deed) → carried_out finds around pc thread ≡ deed → Runs images setup old flat m at.plan.blade (performed_by deed h at.plan finds at.blade hart)
  by None e = idles images setup old flat m goes h hart at
  by (Some (Alone new)) e = alone new e
  by (Some (Storing new store)) e = stored new store e

-- ---- a drain

-- a page that may be written is held
writable-held : (images : List Image) (setup : Setup) (old : RackView) (flat : PageView → PageImageView) (m : State) → GoesWith images setup old flat m → (h : ℕ) (hart : HartView) (at : IsHartAt old h hart)
    → (page : PageView) → is_writable (frame_of page at.blade.cache.entries) ≡ true → IsHeld old flat at.blade.cache.entries page
writable-held images setup old flat m goes h hart at page e = by (frame_of page at.blade.cache.entries) refl e where
  by : (held : Option Frame) → frame_of page at.blade.cache.entries ≡ held → is_writable held ≡ true → IsHeld old flat at.blade.cache.entries page
  by None is e = let never : ⊥ = cc in absurd never
  by (Some frame) is e = held-coherent old flat goes.frames h hart at page frame is

pub draining-runs : (images : List Image) (setup : Setup) (old : RackView) (flat : PageView → PageImageView) (m : State) → GoesWith images setup old flat m → (h : ℕ) (hart : HartView) (at : IsHartAt old h hart)
    → (queue : List PendingView) → hart.queue.stores ≡ queue → Runs images setup old flat m at.plan.blade (draining_by h at.plan queue at.blade hart)
draining-runs images setup old flat m goes h hart at [] is = idles images setup old flat m goes h hart at
draining-runs images setup old flat m goes h hart at (oldest ∷ newer) is = by (is_writable (frame_of (page_at (place_of at.plan.domain oldest.address)) at.blade.cache.entries)) refl where
  fits : ArePending (oldest ∷ newer)
  fits = subst ArePending is (goes.pending h hart at)

  by : (b : Bool) → is_writable (frame_of (page_at (place_of at.plan.domain oldest.address)) at.blade.cache.entries) ≡ b
      → Runs images setup old flat m at.plan.blade (if b then drained h at.plan oldest newer at.blade hart
      else asking h Drain (record { page = page_at (place_of at.plan.domain oldest.address); write = true }) at.blade hart)
  by true e = stores-run images setup old flat m goes h hart at (one_more_store (record hart { queue = record hart.queue { stores = newer } })) oldest (drained h at.plan oldest newer at.blade hart)
      refl refl refl (writable-held images setup old flat m goes h hart at (page_at (place_of at.plan.domain oldest.address)) e) refl (λ r k. k) fits.0 fits.1
      (ap (advanced 0 m) (drain-stands old flat m goes.stands setup goes.plan h hart at oldest newer is))
  by false e = asks images setup old flat m goes h hart at Drain (record { page = page_at (place_of at.plan.domain oldest.address); write = true })

pub drain-runs : (images : List Image) (setup : Setup) (old : RackView) (flat : PageView → PageImageView) (m : State) → GoesWith images setup old flat m → (h : ℕ) (hart : HartView) (at : IsHartAt old h hart)
    → Runs images setup old flat m at.plan.blade (drain_of h at.plan at.blade hart)
drain-runs images setup old flat m goes h hart at = by hart.draining where
  by : (b : Bool) → Runs images setup old flat m at.plan.blade (if b then only at.blade else draining_by h at.plan hart.queue.stores at.blade hart)
  by true = idles images setup old flat m goes h hart at
  by false = draining-runs images setup old flat m goes h hart at hart.queue.stores refl

-- ---- a step

needs-run : (images : List Image) (setup : Setup) (old : RackView) (flat : PageView → PageImageView) (m : State) → GoesWith images setup old flat m → (h : ℕ) (hart : HartView) (at : IsHartAt old h hart)
    → (image : Image) (pc : ℕ) → slice_get images at.plan.image ≡ Some image → hart.end ≡ Running pc → (need : Option Need) → need_in (found image hart.regs pc) at.plan.domain ≡ need
    → Runs images setup old flat m at.plan.blade (stepping_at need h at.plan (found image hart.regs pc) pc at.blade hart)
needs-run images setup old flat m goes h hart at image pc code runs None needs = performs-run images setup old flat m goes h hart at image pc
    (record { code = code; runs = runs; holds = λ need is. let none = sym needs ∙ is in let never : ⊥ = cc in absurd never })
needs-run images setup old flat m goes h hart at image pc code runs (Some need) needs = by (serves (found image hart.regs pc) (frame_of need.page at.blade.cache.entries)) refl where
  by : (b : Bool) → serves (found image hart.regs pc) (frame_of need.page at.blade.cache.entries) ≡ b
      → Runs images setup old flat m at.plan.blade (if b then performed h at.plan (found image hart.regs pc) pc at.blade hart else asking h Step need at.blade hart)
  by true e = performs-run images setup old flat m goes h hart at image pc (record {
    code = code;
    runs = runs;
    holds = holds-serving old flat goes.frames h hart at (found image hart.regs pc)
        (λ other is. subst (λ (n : Need). serves (found image hart.regs pc) (frame_of n.page at.blade.cache.entries) ≡ true) (same_Some _ _ (sym needs ∙ is)) e);
  })
  by false e = asks images setup old flat m goes h hart at Step need

stepping-runs : (images : List Image) (setup : Setup) (old : RackView) (flat : PageView → PageImageView) (m : State) → GoesWith images setup old flat m → (h : ℕ) (hart : HartView) (at : IsHartAt old h hart)
    → (image : Image) (pc : ℕ) → slice_get images at.plan.image ≡ Some image → hart.end ≡ Running pc
    → Runs images setup old flat m at.plan.blade (stepping_by h at.plan (found image hart.regs pc) pc at.blade hart)
stepping-runs images setup old flat m goes h hart at image pc code runs = by (drains_first (found image hart.regs pc) hart.queue.stores hart.queue.capacity) where
  by : (b : Bool) → Runs images setup old flat m at.plan.blade (if b then drain_of h at.plan at.blade hart
      else stepping_at (need_in (found image hart.regs pc) at.plan.domain) h at.plan (found image hart.regs pc) pc at.blade hart)
  by true = drain-runs images setup old flat m goes h hart at
  by false = needs-run images setup old flat m goes h hart at image pc code runs (need_in (found image hart.regs pc) at.plan.domain) refl

pub step-runs : (images : List Image) (setup : Setup) (old : RackView) (flat : PageView → PageImageView) (m : State) → GoesWith images setup old flat m → (h : ℕ) (hart : HartView) (at : IsHartAt old h hart)
    → (image : Image) → slice_get images at.plan.image ≡ Some image → (end : End) → hart.end ≡ end → Runs images setup old flat m at.plan.blade (step_at end h at.plan image at.blade hart)
step-runs images setup old flat m goes h hart at image code (Running pc) runs = by hart.stepping where
  by : (b : Bool) → Runs images setup old flat m at.plan.blade (if b then only at.blade else stepping_by h at.plan (found image hart.regs pc) pc at.blade hart)
  by true = idles images setup old flat m goes h hart at
  by false = stepping-runs images setup old flat m goes h hart at image pc code runs
step-runs images setup old flat m goes h hart at image code (Exit value) runs = idles images setup old flat m goes h hart at
step-runs images setup old flat m goes h hart at image code (Fault kind value pc) runs = idles images setup old flat m goes h hart at
