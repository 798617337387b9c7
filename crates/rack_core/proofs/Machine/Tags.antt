-- The tags of granules when a store takes effect: the reservations on its granule end, and no other does.
use Rattle.std.proofs.Common.{◌≡◌, ℕ, ◌+◌, ◌/◌, ◌%◌, ◌^◌, ◌<◌, ◌≤◌, ◌==◌, ◌∙◌, Bool, true, false, ap, sym, refl, subst, Option, Some, None, length, arith, get_or-set_same, get_or-set_other}
use Rattle.std.specs.Prelude.{if◌then◌else◌}
use Rattle.std.proofs.lemmas.Bool.{eqb-true, eqb-false, eq-eqb, ne_eqb, and_parts, and_from, both_ways}
use Rattle.std.proofs.lemmas.Option.{slice_get_within}
use Rattle.mind_base.specs.Place.{place_of, granule_at, same_granule, page_with, Granule}
use Rattle.mind_base.specs.Fit.{IsFit}
use Rattle.mind_base.specs.Page.{PageView, page_of}
use Rattle.mind_base.specs.Pending.{PendingView}
use Rattle.page_cache.specs.PageCache.{same_page}
use Rattle.page_cache.proofs.Callers.{same_page-true}
use Rattle.page_image.specs.PageImage.{PageImageView, IsPageImage, image_after, tag_at}
use Rattle.compute_blade.specs.Blade.{HartView, last_store}
use Rattle.compute_blade.specs.Steps.{next_tag}
use Rattle.compute_blade.specs.declared.kept.Reservation.{Reservation}
use Rattle.tso_machine.specs.Step.{reservation_off, thread_off}
use Rattle.rack_core.specs.Rack.{RackView}
use Rattle.rack_core.specs.Stands.{IsHartAt, IsPast, reserved_in, machine_thread}
use Rattle.rack_core.proofs.Machine.Changes.{OneChanged}
use Rattle.rack_core.proofs.Machine.Bytes.{image_with, flat_with}

-- ---- the tags of one page

-- the store's granule has the new tag
pub tag-image_with : (image : PageImageView) (store : PendingView) (tag granule : ℕ) → IsPageImage image → granule ≡ store.address % 4096 / 64 → tag_at (image_with store tag image) granule ≡ tag
unfolding image_after
tag-image_with image store tag granule is here =
    ap (tag_at (image_with store tag image)) here
    ∙ get_or-set_same image.tags (store.address % 4096 / 64) tag 0 (let count : length image.tags ≡ 64 = is.tag_count in omega arith)

-- every other granule of the page keeps its tag
pub tag-image_with_other : (image : PageImageView) (store : PendingView) (tag granule : ℕ) → (granule ≡ store.address % 4096 / 64 → ⊥) → tag_at (image_with store tag image) granule ≡ tag_at image granule
unfolding image_after
tag-image_with_other image store tag granule other = get_or-set_other image.tags (store.address % 4096 / 64) granule tag 0 other

-- ---- the tags of all pages

-- the tag of a granule, by its number in the domain
abbrev pub tag_of : (PageView → PageImageView) → Granule → ℕ
tag_of flat granule = tag_at (flat (page_with granule)) (granule.number % 64)

-- what is true of the new tag, and of all tags before, is true of all tags after a store
pub tags-stored : (P : ℕ → Type 0) (flat : PageView → PageImageView) (domain : ℕ) (store : PendingView) (tag : ℕ)
    → ((page : PageView) → IsPageImage (flat page)) → P tag → ((page : PageView) (granule : ℕ) → granule < 64 → P (tag_at (flat page) granule))
    → (page : PageView) (granule : ℕ) → granule < 64 → P (tag_at (flat_with domain store tag flat page) granule)
tags-stored P flat domain store tag are new old other granule within = by (same_page other page) where
  page : PageView
  page = page_of domain store.address

  at : (b : Bool) → (granule == store.address % 4096 / 64) ≡ b → P (tag_at (image_with store tag (flat page)) granule)
  at true e = subst P (sym (tag-image_with (flat page) store tag granule (are page) (eqb-true granule (store.address % 4096 / 64) e))) new
  at false e = subst P (sym (tag-image_with_other (flat page) store tag granule (eqb-false granule (store.address % 4096 / 64) e))) (old page granule within)

  by : (b : Bool) → P (tag_at (if b then image_with store tag (flat page) else flat other) granule)
  by true = at (granule == store.address % 4096 / 64) refl
  by false = old other granule within

-- the store's granule has the new tag
pub tag_of-stored : (flat : PageView → PageImageView) (domain : ℕ) (store : PendingView) (tag : ℕ) (granule : Granule) → IsPageImage (flat (page_of domain store.address))
    → same_granule granule (granule_at (place_of domain store.address)) ≡ true → tag_of (flat_with domain store tag flat) granule ≡ tag
tag_of-stored flat domain store tag granule is same =
    let parts = and_parts (granule.domain == domain) (granule.number == store.address / 64) same in
    let number : granule.number ≡ store.address / 64 = eqb-true granule.number (store.address / 64) parts.1 in
    let page : PageView = page_of domain store.address in
    let on : same_page (page_with granule) page ≡ true = and_from (granule.domain == domain) (granule.number / 64 == store.address / 4096) parts.0 (eq-eqb (granule.number / 64) (store.address / 4096) (omega arith)) in
    ap (λ b. tag_at (if b then image_with store tag (flat page) else flat (page_with granule)) (granule.number % 64)) on
    ∙ tag-image_with (flat page) store tag (granule.number % 64) is (omega arith)

-- every other granule keeps its tag
pub tag_of-stored_other : (flat : PageView → PageImageView) (domain : ℕ) (store : PendingView) (tag : ℕ) (granule : Granule)
    → same_granule granule (granule_at (place_of domain store.address)) ≡ false → tag_of (flat_with domain store tag flat) granule ≡ tag_of flat granule
tag_of-stored_other flat domain store tag granule other = by (same_page (page_with granule) page) refl where
  page : PageView
  page = page_of domain store.address

  by : (b : Bool) → same_page (page_with granule) page ≡ b → tag_at (if b then image_with store tag (flat page) else flat (page_with granule)) (granule.number % 64) ≡ tag_of flat granule
  by true e =
      let parts = and_parts (granule.domain == domain) (granule.number / 64 == store.address / 4096) e in
      let number : granule.number / 64 ≡ store.address / 4096 = eqb-true (granule.number / 64) (store.address / 4096) parts.1 in
      tag-image_with_other (flat page) store tag (granule.number % 64)
      (λ here. both_ways (same_granule granule (granule_at (place_of domain store.address))) other
      (and_from (granule.domain == domain) (granule.number == store.address / 64) parts.0 (eq-eqb granule.number (store.address / 64) (omega arith))))
      ∙ ap (λ p. tag_at (flat p) (granule.number % 64)) (sym (same_page-true (page_with granule) page e))
  by false e = refl

-- ---- reservations

-- A store with a tag that no reservation kept ends the reservations on its granule alone.
pub reserved-stored : (flat : PageView → PageImageView) (domain : ℕ) (store : PendingView) (tag : ℕ) (kept : Option Reservation)
    → IsPageImage (flat (page_of domain store.address)) → ((reservation : Reservation) → kept ≡ Some reservation → reservation.tag ≡ tag → ⊥)
    → reserved_in (flat_with domain store tag flat) kept ≡ reservation_off (granule_at (place_of domain store.address)) (reserved_in flat kept)
reserved-stored flat domain store tag None is new = refl
reserved-stored flat domain store tag (Some kept) is new = by (same_granule kept.granule stored) refl where
  stored : Granule
  stored = granule_at (place_of domain store.address)

  gone : (b : Bool) → same_granule kept.granule stored ≡ true → reservation_off stored (if b then Some kept.granule else None) ≡ None
  gone true e = ap (λ b. if b then None else Some kept.granule) e
  gone false e = refl

  stays : (b : Bool) → same_granule kept.granule stored ≡ false → reservation_off stored (if b then Some kept.granule else None) ≡ (if b then Some kept.granule else None)
  stays true e = ap (λ b. if b then None else Some kept.granule) e
  stays false e = refl

  by : (b : Bool) → same_granule kept.granule stored ≡ b → reserved_in (flat_with domain store tag flat) (Some kept) ≡ reservation_off stored (reserved_in flat (Some kept))
  by true e =
      ap (λ t. if t == kept.tag then Some kept.granule else None) (tag_of-stored flat domain store tag kept.granule is e)
      ∙ (ap (λ b. if b then Some kept.granule else None) (ne_eqb tag kept.tag (λ same. new kept refl (sym same)))
      ∙ sym (gone (tag_of flat kept.granule == kept.tag) e))
  by false e =
      ap (λ t. if t == kept.tag then Some kept.granule else None) (tag_of-stored_other flat domain store tag kept.granule e)
      ∙ sym (stays (tag_of flat kept.granule == kept.tag) e)

-- a hart as a thread of the machine loses its reservation as the machine's threads do
pub thread-stored : (flat : PageView → PageImageView) (domain : ℕ) (store : PendingView) (tag : ℕ) (hart : HartView)
    → IsPageImage (flat (page_of domain store.address)) → ((reservation : Reservation) → hart.reserved ≡ Some reservation → reservation.tag ≡ tag → ⊥)
    → machine_thread (flat_with domain store tag flat) hart ≡ thread_off (granule_at (place_of domain store.address)) (machine_thread flat hart)
thread-stored flat domain store tag hart is new =
    ap (λ reserved. record (machine_thread flat hart) { reserved = reserved }) (reserved-stored flat domain store tag hart.reserved is new)

-- ---- tags that are past

-- the tag of a hart's next store is no tag that counts at most its stores so far
pub next_tag-new : (h stores tag : ℕ) → h < 64 → (tag % 64 ≡ h → tag / 64 ≤ stores) → tag ≡ next_tag h stores → ⊥
next_tag-new h stores tag below past same =
    let own : tag % 64 ≡ h = omega arith in
    let counted : tag / 64 ≤ stores = past own in
    omega arith

-- it has 64 bits, unless the hart's stores are spent
pub next_tag-fits : (h stores : ℕ) → h < 64 → stores < last_store → next_tag h stores < 2 ^ 64
next_tag-fits h stores below unspent = omega arith

-- a rack has at most 64 harts
pub hart-below : (rack : RackView) (h : ℕ) (hart : HartView) → IsFit rack.plan → IsHartAt rack h hart → h < 64
hart-below rack h hart fit at =
    let within : h < length rack.plan.threads = slice_get_within rack.plan.threads h at.plan at.thread in
    let most : length rack.plan.threads ≤ 64 = fit.threads.1 in
    omega arith

-- the tag of a hart's next store is no tag that is past
pub past-not_next : (rack : RackView) (h : ℕ) (hart : HartView) (tag : ℕ) → IsHartAt rack h hart → h < 64 → IsPast rack tag → tag ≡ next_tag h hart.stores → ⊥
past-not_next rack h hart tag at below past =
    next_tag-new h hart.stores tag below (λ own. past hart (subst (λ n. IsHartAt rack n hart) (sym own) at))

-- what was past is past, when one hart changed and counts no fewer stores
pub past-stays : (h : ℕ) (was now : HartView) (old new : RackView) (tag : ℕ) → OneChanged h was now old new → was.stores ≤ now.stores → IsPast old tag → IsPast new tag
past-stays h was now old new tag one more past hart at = by (tag % 64 == h) refl where
  by : (b : Bool) → (tag % 64 == h) ≡ b → tag / 64 ≤ hart.stores
  by true e =
      let is : tag % 64 ≡ h = eqb-true (tag % 64) h e in
      let counts : hart.stores ≡ now.stores = ap (λ x. x.stores) (one.own hart (subst (λ n. IsHartAt new n hart) is at)) in
      let counted : tag / 64 ≤ was.stores = past was (subst (λ n. IsHartAt old n was) (sym is) one.before) in
      omega arith
  by false e = past hart (one.others (tag % 64) hart e at)

-- the tag of the store that took effect is past
pub past-stored : (h : ℕ) (was now : HartView) (old new : RackView) → h < 64 → OneChanged h was now old new → now.stores ≡ was.stores + 1 → IsPast new (next_tag h was.stores)
past-stored h was now old new below one more hart at =
    let own : next_tag h was.stores % 64 ≡ h = omega arith in
    let counts : hart.stores ≡ now.stores = ap (λ x. x.stores) (one.own hart (subst (λ n. IsHartAt new n hart) own at)) in
    omega arith

-- all tags of the newest images are past after a store
pub tags-past : (h : ℕ) (was now : HartView) (old new : RackView) (flat : PageView → PageImageView) (domain : ℕ) (store : PendingView)
    → h < 64 → OneChanged h was now old new → now.stores ≡ was.stores + 1 → ((page : PageView) → IsPageImage (flat page))
    → ((page : PageView) (granule : ℕ) → granule < 64 → IsPast old (tag_at (flat page) granule))
    → (page : PageView) (granule : ℕ) → granule < 64 → IsPast new (tag_at (flat_with domain store (next_tag h was.stores) flat page) granule)
tags-past h was now old new flat domain store below one more are past =
    tags-stored (IsPast new) flat domain store (next_tag h was.stores) are (past-stored h was now old new below one more)
    (λ page granule within. past-stays h was now old new (tag_at (flat page) granule) one (omega arith) (past page granule within))
