-- When a store takes effect at the rack and at the machine, the rack stands for the machine's new state.
use Rattle.std.proofs.Common.{◌≡◌, ℕ, ◌+◌, ◌<◌, ◌==◌, ◌∙◌, Bool, true, false, ap, sym, refl, subst, Some, slice_get, slice_set, option_map, arith}
use Rattle.std.proofs.lemmas.Bool.{eqb-true}
use Rattle.std.proofs.lemmas.Option.{slice_get-map}
use Rattle.hart_effect.specs.Deed.{Storing}
use Rattle.mind_base.specs.Place.{place_of, granule_at, Granule}
use Rattle.mind_base.specs.Page.{PageView, page_of}
use Rattle.mind_base.specs.Pending.{PendingView, IsPending}
use Rattle.page_image.specs.PageImage.{PageImageView}
use Rattle.protect_table.specs.Protect.{permission_at}
use Rattle.compute_blade.specs.Blade.{HartView, last_store}
use Rattle.compute_blade.specs.Steps.{next_tag}
use Rattle.compute_blade.specs.declared.kept.Reservation.{Reservation}
use Rattle.tso_machine.specs.State.{State}
use Rattle.tso_machine.specs.Step.{thread_off, threads_off, done_by}
use Rattle.rack_core.specs.Rack.{RackView}
use Rattle.rack_core.specs.Stands.{IsHartAt, IsPast, RackStandsFor, machine_thread}
use Rattle.rack_core.proofs.Lists.Lookups.{slice_get-set, slice_get-set_other}
use Rattle.rack_core.proofs.Machine.Bytes.{flat_with, bytes-stored, images-stored}
use Rattle.rack_core.proofs.Machine.Changes.{OneChanged}
use Rattle.rack_core.proofs.Machine.Tags.{thread-stored, past-not_next, past-stays, tags-past, next_tag-fits}

-- Hart h of the rack did a deed with a store that took effect: it counts one store more, and reserves nothing
-- new; nothing else of the harts changed, nor what the switch permits.
pub record HasStored (h : ℕ) (was now : HartView) (store : PendingView) (old new : RackView) : Type 0 where
  pub one : OneChanged h was now old new
  pub below : h < 64
  pub unspent : was.stores < last_store
  pub counts : now.stores ≡ was.stores + 1
  pub keeps : (reservation : Reservation) → now.reserved ≡ Some reservation → was.reserved ≡ Some reservation
  pub pending : IsPending store.address store.size
  pub perms : permission_at new.switch.protect ≡ permission_at old.switch.protect

-- a hart of the new rack keeps a reservation that was past
kept-before : (h : ℕ) (was now : HartView) (store : PendingView) (old new : RackView) (flat : PageView → PageImageView) (state : State) → HasStored h was now store old new → RackStandsFor old flat state
    → (n : ℕ) (hart : HartView) (reservation : Reservation) → IsHartAt new n hart → hart.reserved ≡ Some reservation → IsPast old reservation.tag
kept-before h was now store old new flat state has stands n hart reservation at e = by (n == h) refl where
  by : (b : Bool) → (n == h) ≡ b → IsPast old reservation.tag
  by true s =
      let same : hart ≡ now = has.one.own hart (subst (λ m. IsHartAt new m hart) (eqb-true n h s) at) in
      stands.kept h was reservation has.one.before (has.keeps reservation (ap (λ x. x.reserved) (sym same) ∙ e))
  by false s = stands.kept n hart reservation (has.one.others n hart s at) e

-- The rack stands for the machine's state after the deed, with the store in the newest image of its page.
pub stands-stored : (h domain : ℕ) (was now : HartView) (store : PendingView) (old new : RackView) (flat : PageView → PageImageView) (state : State)
    → HasStored h was now store old new → RackStandsFor old flat state
    → RackStandsFor new (flat_with domain store (next_tag h was.stores) flat) (done_by h domain state (Storing (machine_thread flat now) store))
stands-stored h domain was now store old new flat state has stands = record {
  threads = threads;
  bytes = bytes-stored flat state.writes domain store tag (stands.images (page_of domain store.address)) has.pending stands.bytes;
  perms = stands.perms ∙ sym has.perms;
  images = images-stored flat domain store tag stands.images has.pending (next_tag-fits h was.stores has.below has.unspent);
  tags = tags-past h was now old new flat domain store has.below has.one has.counts stands.images stands.tags;
  kept = λ n hart reservation at e. past-stays h was now old new reservation.tag has.one (let counts : now.stores ≡ was.stores + 1 = has.counts in omega arith)
      (kept-before h was now store old new flat state has stands n hart reservation at e);
} where
  tag : ℕ
  tag = next_tag h was.stores

  granule : Granule
  granule = granule_at (place_of domain store.address)

  thread : (n : ℕ) (hart : HartView) → IsHartAt new n hart → machine_thread (flat_with domain store tag flat) hart ≡ thread_off granule (machine_thread flat hart)
  thread n hart at = thread-stored flat domain store tag hart (stands.images (page_of domain store.address))
      (λ reservation e. past-not_next old h was reservation.tag has.one.before has.below (kept-before h was now store old new flat state has stands n hart reservation at e))

  before : (n : ℕ) (hart : HartView) → IsHartAt new n hart → slice_get (slice_set state.threads h (machine_thread flat now)) n ≡ Some (machine_thread flat hart)
  before n hart at = by (n == h) refl where
    by : (b : Bool) → (n == h) ≡ b → slice_get (slice_set state.threads h (machine_thread flat now)) n ≡ Some (machine_thread flat hart)
    by true s =
        let number : n ≡ h = eqb-true n h s in
        let same : hart ≡ now = has.one.own hart (subst (λ m. IsHartAt new m hart) number at) in
        ap (slice_get (slice_set state.threads h (machine_thread flat now))) number
        ∙ (slice_get-set state.threads h (machine_thread flat was) (machine_thread flat now) (stands.threads h was has.one.before)
        ∙ ap (λ x. Some (machine_thread flat x)) (sym same))
    by false s = slice_get-set_other state.threads h (machine_thread flat now) n s ∙ stands.threads n hart (has.one.others n hart s at)

  threads : (n : ℕ) (hart : HartView) → IsHartAt new n hart
      → slice_get (threads_off granule (slice_set state.threads h (machine_thread flat now))) n ≡ Some (machine_thread (flat_with domain store tag flat) hart)
  threads n hart at = slice_get-map (thread_off granule) (slice_set state.threads h (machine_thread flat now)) n
      ∙ (ap (option_map (thread_off granule)) (before n hart at) ∙ ap (λ x. Some x) (sym (thread n hart at)))
