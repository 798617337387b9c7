-- The bytes of the machine and those of the newest images, when a store takes effect.
use Rattle.std.proofs.Common.{◌≡◌, ℕ, ◌+◌, ◌/◌, ◌%◌, ◌^◌, ◌<◌, ◌≤◌, ◌==◌, ◌&&◌, ◌∙◌, ◌⊎◌, inl, inr, Bool, true, false, nat_le, nat_lt, ap, sym, refl, List, ◌++◌, slice_index, arith}
use Rattle.std.specs.Prelude.{if◌then◌else◌}
use Rattle.std.proofs.lemmas.Bool.{eqb-true, eq-eqb, and_parts, and_from, leb-true, leb-false, ltb-true, ltb-false, false_from_ne_true, both_ways}
use Rattle.mind_base.specs.Page.{PageView, page_of}
use Rattle.mind_base.specs.Pending.{PendingView, IsPending, covers, byte_number, byte_at}
use Rattle.page_cache.specs.PageCache.{same_page}
use Rattle.page_cache.proofs.Callers.{same_page-true}
use Rattle.page_image.specs.PageImage.{PageImageView, IsPageImage, IsInside, image_after}
use Rattle.page_image.proofs.Callers.{end_inside, IsPageImage-image_after, get_or-image_after-inside, get_or-image_after-outside}
use Rattle.tso_machine.specs.State.{Write}
use Rattle.tso_machine.specs.Memory.{byte_of}
use Rattle.tso_machine.specs.Step.{bytes_of}
use Rattle.tso_machine.proofs.Callers.{stored-is}
use Rattle.coherence.specs.World.{put_page}

-- the image of a page when a store in it took effect with a tag
abbrev pub image_with : PendingView → ℕ → PageImageView → PageImageView
image_with store tag image = image_after image (store.address % 4096) store.size store.value tag

-- the newest images when a store of a domain took effect with a tag
abbrev pub flat_with : ℕ → PendingView → ℕ → (PageView → PageImageView) → PageView → PageImageView
flat_with domain store tag flat = let page = page_of domain store.address in put_page page (image_with store tag (flat page)) flat

-- ---- one page

-- a store lies inside the page of its address
pub store-inside : (store : PendingView) → IsPending store.address store.size → IsInside (store.address % 4096) store.size
store-inside store pending = record { aligned = (pending.0, by_size store.size pending.0 pending.1); inside = omega arith } where
  by_size : (size : ℕ) → (size ≡ 1) ⊎ ((size ≡ 2) ⊎ (size ≡ 4)) → store.address % size ≡ 0 → store.address % 4096 % size ≡ 0
  by_size size (inl one) even = rw one (omega arith)
  by_size size (inr (inl two)) even = let halves : store.address % 2 ≡ 0 = rw two at even in rw two (omega arith)
  by_size size (inr (inr four)) even = let quarters : store.address % 4 ≡ 0 = rw four at even in rw four (omega arith)

-- what a store covers lies in the page of its address
pub covered-page : (store : PendingView) (a : ℕ) → IsPending store.address store.size → covers store a ≡ true → a / 4096 ≡ store.address / 4096
covered-page store a pending e =
    let parts = and_parts (nat_le store.address a) (nat_lt a (store.address + store.size)) e in
    let from : store.address ≤ a = leb-true store.address a parts.0 in
    let below : a < store.address + store.size = ltb-true a (store.address + store.size) parts.1 in
    let end : store.address % 4096 + store.size ≤ 4096 = end_inside (store.address % 4096) store.size (store-inside store pending) in
    omega arith

-- each byte of the image after a store: the store's where it covers the address, else as before
pub byte-image_with : (image : PageImageView) (store : PendingView) (tag a : ℕ) → IsPageImage image → IsPending store.address store.size → a / 4096 ≡ store.address / 4096
    → slice_index (image_with store tag image).bytes (a % 4096) ≡ (if covers store a then byte_at store a else slice_index image.bytes (a % 4096))
byte-image_with image store tag a is pending near = by (nat_le store.address a) (nat_lt a (store.address + store.size)) refl refl where
  inside : IsInside (store.address % 4096) store.size
  inside = store-inside store pending

  outside : (a % 4096 < store.address % 4096) ⊎ (store.address % 4096 + store.size ≤ a % 4096) → slice_index (image_with store tag image).bytes (a % 4096) ≡ slice_index image.bytes (a % 4096)
  outside away = get_or-image_after-outside image (store.address % 4096) store.size store.value tag (a % 4096) is inside away

  by : (low high : Bool) → nat_le store.address a ≡ low → nat_lt a (store.address + store.size) ≡ high
      → slice_index (image_with store tag image).bytes (a % 4096) ≡ (if low && high then byte_at store a else slice_index image.bytes (a % 4096))
  by true true e f =
      let from : store.address ≤ a = leb-true store.address a e in
      let below : a < store.address + store.size = ltb-true a (store.address + store.size) f in
      get_or-image_after-inside image (store.address % 4096) store.size store.value tag (a % 4096) is inside (omega arith) (omega arith)
      ∙ ap (byte_number store.value) (omega arith)
  by true false e f = outside (inr (omega (arith, leb-true store.address a e, ltb-false a (store.address + store.size) f)))
  by false high e f = outside (inl (omega (arith, leb-false store.address a e)))

-- ---- the machine's bytes

-- each byte of memory after a store: the store's where it covers the address in its domain, else as before
pub byte-stored : (writes : List Write) (domain : ℕ) (store : PendingView) (d a : ℕ)
    → byte_of (writes ++ bytes_of domain store) d a ≡ (if d == domain && covers store a then byte_at store a else byte_of writes d a)
byte-stored writes domain store d a = sym (ap (λ f. f d a) (stored-is writes domain store))

-- ---- both

-- where the newest images have the machine's bytes, they have them after a store
pub bytes-stored : (flat : PageView → PageImageView) (writes : List Write) (domain : ℕ) (store : PendingView) (tag : ℕ)
    → IsPageImage (flat (page_of domain store.address)) → IsPending store.address store.size
    → ((d a : ℕ) → byte_of writes d a ≡ slice_index (flat (page_of d a)).bytes (a % 4096))
    → (d a : ℕ) → byte_of (writes ++ bytes_of domain store) d a ≡ slice_index (flat_with domain store tag flat (page_of d a)).bytes (a % 4096)
bytes-stored flat writes domain store tag is pending agree d a = byte-stored writes domain store d a ∙ by (same_page (page_of d a) page) refl where
  page : PageView
  page = page_of domain store.address

  by : (b : Bool) → same_page (page_of d a) page ≡ b
      → (if d == domain && covers store a then byte_at store a else byte_of writes d a) ≡ slice_index (if b then image_with store tag (flat page) else flat (page_of d a)).bytes (a % 4096)
  by true e =
      let parts = and_parts _ _ e in
      ap (λ t. if t && covers store a then byte_at store a else byte_of writes d a) parts.0
      ∙ (ap (λ n. if covers store a then byte_at store a else n) (agree d a ∙ ap (λ p. slice_index (flat p).bytes (a % 4096)) (same_page-true (page_of d a) page e))
      ∙ sym (byte-image_with (flat page) store tag a is pending (eqb-true (a / 4096) (store.address / 4096) parts.1)))
  by false e = ap (λ t. if t then byte_at store a else byte_of writes d a) apart ∙ agree d a where
    apart : (d == domain && covers store a) ≡ false
    apart = false_from_ne_true _ (λ t.
        let parts = and_parts (d == domain) (covers store a) t in
        both_ways _ e (and_from (d == domain) (a / 4096 == store.address / 4096) parts.0 (eq-eqb _ _ (covered-page store a pending parts.1))))

-- the newest images are images after a store
pub images-stored : (flat : PageView → PageImageView) (domain : ℕ) (store : PendingView) (tag : ℕ)
    → ((page : PageView) → IsPageImage (flat page)) → IsPending store.address store.size → tag < 2 ^ 64
    → (page : PageView) → IsPageImage (flat_with domain store tag flat page)
images-stored flat domain store tag are pending fits other = by (same_page other page) where
  page : PageView
  page = page_of domain store.address

  by : (b : Bool) → IsPageImage (if b then image_with store tag (flat page) else flat other)
  by true = IsPageImage-image_after (flat page) (store.address % 4096) store.size store.value tag (are page) (store-inside store pending) fits
  by false = are other
