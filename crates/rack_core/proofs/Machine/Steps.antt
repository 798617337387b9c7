-- The rack stands for the machine's state after a deed in which the thread alone changes, and after nothing happened.
use Rattle.std.proofs.Common.{◌≡◌, ℕ, ◌==◌, ◌≤◌, ◌∙◌, Bool, true, false, ap, sym, refl, subst, List, Option, Some, None, slice_get, slice_set, arith, ◌%◌}
use Rattle.std.proofs.lemmas.Bool.{eqb-true}
use Rattle.std.proofs.lemmas.Option.{same_Some}
use Rattle.mind_base.specs.Page.{PageView}
use Rattle.mind_base.specs.declared.ends.End.{End}
use Rattle.mind_base.specs.declared.ends.End.TheVariants.{Running, Exit, Fault}
use Rattle.hart_core.specs.declared.outcome.Act.TheVariants as act
use Rattle.hart_core.specs.declared.outcome.LockedKind.{LockedKind}
use Rattle.hart_core.specs.declared.outcome.LockedKind.TheVariants as locked
use Rattle.hart_effect.specs.Deed.{Alone}
use Rattle.mind_base.specs.Place.{place_of, page_with, granule_at, Granule}
use Rattle.hart_effect.specs.Thread.{Thread}
use Rattle.hart_effect.specs.declared.finds.Found.{Found}
use Rattle.hart_effect.specs.declared.finds.Found.TheVariants.{Outside, Unknown, Asks}
use Rattle.page_cache.specs.PageCache.{frame_of}
use Rattle.page_cache.specs.declared.frames.Frame.{Frame}
use Rattle.page_image.specs.PageImage.{PageImageView, tag_at}
use Rattle.protect_table.specs.Protect.{permission_at}
use Rattle.compute_blade.specs.Blade.{HartView}
use Rattle.compute_blade.specs.Frames.{tag_in}
use Rattle.compute_blade.specs.Steps.{kept_after, kept_by, kept_unless_denied, writes_at_once}
use Rattle.compute_blade.specs.declared.kept.Reservation.{Reservation}
use Rattle.coherence.specs.Facts.{AreFrames}
use Rattle.tso_machine.specs.State.{State}
use Rattle.tso_machine.specs.Step.{done_by}
use Rattle.rack_core.specs.Rack.{RackView}
use Rattle.rack_core.specs.Seen.{seen}
use Rattle.rack_core.specs.Stands.{IsHartAt, IsPast, RackStandsFor, machine_thread}
use Rattle.rack_core.proofs.Lists.Lookups.{slice_get-set, slice_get-set_other}
use Rattle.rack_core.proofs.Machine.Changes.{OneChanged}
use Rattle.rack_core.proofs.Machine.Harts.{Entries, held-coherent}
use Rattle.rack_core.proofs.Machine.Tags.{past-stays}

-- Hart h of the rack changed, and no store of it took effect: what it keeps reserved is past, and nothing else of the
-- harts changed, nor what the switch permits.
pub record HasChanged (h : ℕ) (was now : HartView) (old new : RackView) : Type 0 where
  pub one : OneChanged h was now old new
  pub counts : now.stores ≡ was.stores
  pub keeps : (reservation : Reservation) → now.reserved ≡ Some reservation → IsPast old reservation.tag
  pub perms : permission_at new.switch.protect ≡ permission_at old.switch.protect

-- the machine's threads are those of the new rack's harts, where hart h's is
threads-changed : (h : ℕ) (was now : HartView) (old new : RackView) (flat : PageView → PageImageView) (state : State) → HasChanged h was now old new → RackStandsFor old flat state
    → (threads : List Thread) → slice_get threads h ≡ Some (machine_thread flat now) → ((n : ℕ) → (n == h) ≡ false → slice_get threads n ≡ slice_get state.threads n)
    → (n : ℕ) (hart : HartView) → IsHartAt new n hart → slice_get threads n ≡ Some (machine_thread flat hart)
threads-changed h was now old new flat state has stands threads here away n hart at = by (n == h) refl where
  by : (b : Bool) → (n == h) ≡ b → slice_get threads n ≡ Some (machine_thread flat hart)
  by true s =
      let number : n ≡ h = eqb-true n h s in
      let same : hart ≡ now = has.one.own hart (subst (λ m. IsHartAt new m hart) number at) in
      ap (slice_get threads) number ∙ here ∙ ap (λ x. Some (machine_thread flat x)) (sym same)
  by false s = away n s ∙ stands.threads n hart (has.one.others n hart s at)

-- a hart of the new rack keeps a reservation that was past
past-changed : (h : ℕ) (was now : HartView) (old new : RackView) (flat : PageView → PageImageView) (state : State) → HasChanged h was now old new → RackStandsFor old flat state
    → (n : ℕ) (hart : HartView) (reservation : Reservation) → IsHartAt new n hart → hart.reserved ≡ Some reservation → IsPast old reservation.tag
past-changed h was now old new flat state has stands n hart reservation at e = by (n == h) refl where
  by : (b : Bool) → (n == h) ≡ b → IsPast old reservation.tag
  by true s =
      let same : hart ≡ now = has.one.own hart (subst (λ m. IsHartAt new m hart) (eqb-true n h s) at) in
      has.keeps reservation (ap (λ x. x.reserved) (sym same) ∙ e)
  by false s = stands.kept n hart reservation (has.one.others n hart s at) e

-- the rack stands for the machine's state with threads that are those of its harts
with-threads : (h : ℕ) (was now : HartView) (old new : RackView) (flat : PageView → PageImageView) (state : State) → HasChanged h was now old new → RackStandsFor old flat state
    → (threads : List Thread) → slice_get threads h ≡ Some (machine_thread flat now) → ((n : ℕ) → (n == h) ≡ false → slice_get threads n ≡ slice_get state.threads n)
    → RackStandsFor new flat (record state { threads = threads })
with-threads h was now old new flat state has stands threads here away =
    let counts : now.stores ≡ was.stores = has.counts in
    let more : was.stores ≤ now.stores = omega arith in
    record {
      threads = threads-changed h was now old new flat state has stands threads here away;
      bytes = stands.bytes;
      perms = stands.perms ∙ sym has.perms;
      images = stands.images;
      tags = λ page granule within. past-stays h was now old new (tag_at (flat page) granule) has.one more (stands.tags page granule within);
      kept = λ n hart reservation at e. past-stays h was now old new reservation.tag has.one more (past-changed h was now old new flat state has stands n hart reservation at e);
    }

-- The rack stands for the machine's state after the deed in which the thread became that of the hart.
pub stands-alone : (h domain : ℕ) (was now : HartView) (old new : RackView) (flat : PageView → PageImageView) (state : State) → HasChanged h was now old new → RackStandsFor old flat state
    → RackStandsFor new flat (done_by h domain state (Alone (machine_thread flat now)))
stands-alone h domain was now old new flat state has stands = with-threads h was now old new flat state has stands (slice_set state.threads h (machine_thread flat now))
    (slice_get-set state.threads h (machine_thread flat was) (machine_thread flat now) (stands.threads h was has.one.before))
    (λ n e. slice_get-set_other state.threads h (machine_thread flat now) n e)

-- Where the hart changed in nothing that the machine sees, the rack stands for the same state.
pub stands-same : (h : ℕ) (was now : HartView) (old new : RackView) (flat : PageView → PageImageView) (state : State) → HasChanged h was now old new → RackStandsFor old flat state
    → machine_thread flat now ≡ machine_thread flat was → RackStandsFor new flat state
stands-same h was now old new flat state has stands same = with-threads h was now old new flat state has stands state.threads
    (stands.threads h was has.one.before ∙ ap (λ x. Some x) (sym same)) (λ n e. refl)

-- ---- what a hart keeps reserved

-- after a deed that was not denied, or as it was
unless_denied-kept : (P : Reservation → Type 0) (end : End) (after before : Option Reservation) → ((r : Reservation) → after ≡ Some r → P r) → ((r : Reservation) → before ≡ Some r → P r)
    → (r : Reservation) → kept_unless_denied end after before ≡ Some r → P r
unless_denied-kept P (Running pc) after before new old = new
unless_denied-kept P (Exit value) after before new old = old
unless_denied-kept P (Fault kind value pc) after before new old = old

-- a tag in a page that is held is one of the newest images
tag-past : (rack : RackView) (flat : PageView → PageImageView) (state : State) → RackStandsFor rack flat state → AreFrames (seen rack flat) → (h : ℕ) (hart : HartView) (at : IsHartAt rack h hart)
    → (granule : Granule) (tag : ℕ) → tag_in (frame_of (page_with granule) at.blade.cache.entries) granule ≡ Some tag → IsPast rack tag
tag-past rack flat state stands frames h hart at granule tag e = by (frame_of (page_with granule) at.blade.cache.entries) refl e where
  by : (held : Option Frame) → frame_of (page_with granule) at.blade.cache.entries ≡ held → tag_in held granule ≡ Some tag → IsPast rack tag
  by None is e = let never : ⊥ = cc in absurd never
  by (Some frame) is e =
      let held = held-coherent rack flat frames h hart at (page_with granule) frame is in
      let same : held.frame ≡ frame = same_Some _ _ (sym held.held ∙ is) in
      subst (IsPast rack) (ap (λ image. tag_at image (granule.number % 64)) (sym held.newest ∙ ap (λ f. f.image) same) ∙ same_Some _ _ e)
      (stands.tags (page_with granule) (granule.number % 64) (omega arith))

-- what a hart keeps after its deed is past
pub kept-past : (rack : RackView) (flat : PageView → PageImageView) (state : State) → RackStandsFor rack flat state → AreFrames (seen rack flat) → (h : ℕ) (hart : HartView) (at : IsHartAt rack h hart)
    → (found : Found) (domain : ℕ) (end : End) (r : Reservation) → kept_after found domain at.blade.cache.entries end hart.reserved ≡ Some r → IsPast rack r.tag
kept-past rack flat state stands frames h hart at found domain end r e = by found r e where
  before : (r : Reservation) → hart.reserved ≡ Some r → IsPast rack r.tag
  before r e = stands.kept h hart r at e

  lr : (address : ℕ) (tag : Option ℕ) → tag_in (frame_of (page_with (granule_at (place_of domain address))) at.blade.cache.entries) (granule_at (place_of domain address)) ≡ tag
      → (r : Reservation) → kept_by locked.Lr tag domain address hart.reserved ≡ Some r → IsPast rack r.tag
  lr address None is r e = before r e
  lr address (Some tag) is r e = subst (IsPast rack) (ap (λ (x : Reservation). x.tag) (same_Some _ _ e)) (tag-past rack flat state stands frames h hart at (granule_at (place_of domain address)) tag is)

  locks : (kind : LockedKind) (address : ℕ) (tag : Option ℕ) → tag_in (frame_of (page_with (granule_at (place_of domain address))) at.blade.cache.entries) (granule_at (place_of domain address)) ≡ tag
      → (r : Reservation) → kept_by kind tag domain address hart.reserved ≡ Some r → IsPast rack r.tag
  locks locked.Lr address tag is r e = lr address tag is r e
  locks locked.Sc address tag is r e = let never : ⊥ = cc in absurd never
  locks (locked.Amo kind) address tag is r e = before r e

  by : (found : Found) (r : Reservation) → kept_after found domain at.blade.cache.entries end hart.reserved ≡ Some r → IsPast rack r.tag
  by Outside r e = before r e
  by (Unknown word) r e = before r e
  by (Asks (act.Next rd value pc)) r e = before r e
  by (Asks (act.Load kind rd address)) r e = before r e
  by (Asks (act.Store size address value)) r e = before r e
  by (Asks (act.Locked kind rd address operand)) r e = unless_denied-kept (λ r. IsPast rack r.tag) end _ hart.reserved
      (locks kind address (tag_in (frame_of (page_with (granule_at (place_of domain address))) at.blade.cache.entries) (granule_at (place_of domain address))) refl) before r e
  by (Asks (act.Fence drains)) r e = before r e
  by (Asks act.Call) r e = before r e
  by (Asks (act.Jumped target)) r e = before r e
  by (Asks act.Broke) r e = before r e

-- an instruction that stores at once reserves nothing new
pub kept-was : (found : Found) (domain : ℕ) (entries : Entries) (end : End) (kept : Option Reservation) → writes_at_once found ≡ true
    → (r : Reservation) → kept_after found domain entries end kept ≡ Some r → kept ≡ Some r
kept-was found domain entries end kept writes r e = by found writes r e where
  locks : (kind : LockedKind) (tag : Option ℕ) (address : ℕ) → writes_at_once (Asks (act.Locked kind 0 address 0)) ≡ true → (r : Reservation) → kept_by kind tag domain address kept ≡ Some r → kept ≡ Some r
  locks locked.Lr tag address w r e = let never : ⊥ = cc in absurd never
  locks locked.Sc tag address w r e = let never : ⊥ = cc in absurd never
  locks (locked.Amo kind) tag address w r e = e

  by : (found : Found) → writes_at_once found ≡ true → (r : Reservation) → kept_after found domain entries end kept ≡ Some r → kept ≡ Some r
  by Outside w r e = e
  by (Unknown word) w r e = e
  by (Asks (act.Next rd value pc)) w r e = e
  by (Asks (act.Load kind rd address)) w r e = e
  by (Asks (act.Store size address value)) w r e = e
  by (Asks (act.Locked kind rd address operand)) w r e = unless_denied-kept (λ r. kept ≡ Some r) end _ kept (locks kind _ address w) (λ r e. e) r e
  by (Asks (act.Fence drains)) w r e = e
  by (Asks act.Call) w r e = e
  by (Asks (act.Jumped target)) w r e = e
  by (Asks act.Broke) w r e = e
