-- The newest images after a blade did something: as they were, or with a store in the image of its page.
use Rattle.std.proofs.Common.{◌≡◌, ℕ, ◌%◌, ◌∙◌, Bool, true, false, ap, refl, Option, Some, None}
use Rattle.std.specs.Prelude.{if◌then◌else◌}
use Rattle.std.specs.List.{IsDistinct}
use Rattle.std.specs.Map.{keys_of}
use Rattle.mind_base.specs.Page.{PageView, page_of}
use Rattle.mind_base.specs.Pending.{PendingView}
use Rattle.page_cache.specs.PageCache.{frame_of, same_page, written_frame}
use Rattle.page_cache.specs.declared.frames.Frame.{Frame}
use Rattle.page_image.specs.PageImage.{PageImageView}
use Rattle.compute_blade.specs.Steps.{frames_with}
use Rattle.rack_core.specs.BladeMoves.{image_or}
use Rattle.rack_core.specs.StandRuns.{AreNewest}
use Rattle.rack_core.proofs.Lists.Lookups.{found-with_first}
use Rattle.rack_core.proofs.Machine.Bytes.{image_with, flat_with}
use Rattle.rack_core.proofs.Machine.Harts.{Entries}

-- each page that is held has its newest image
abbrev pub AreHeld : Entries → (PageView → PageImageView) → Type 0
AreHeld entries flat = (page : PageView) (frame : Frame) → frame_of page entries ≡ Some frame → frame.image ≡ flat page

as-held : (entries : Entries) (flat : PageView → PageImageView) → AreHeld entries flat → (page : PageView) → image_or (flat page) (frame_of page entries) ≡ flat page
as-held entries flat are page = by (frame_of page entries) refl where
  by : (held : Option Frame) → frame_of page entries ≡ held → image_or (flat page) held ≡ flat page
  by None e = refl
  by (Some frame) e = are page frame e

-- where each page is found as it was, the newest images are as they were
pub newest-same : (entries new : Entries) (flat newer : PageView → PageImageView) → AreHeld entries flat → ((page : PageView) → frame_of page new ≡ frame_of page entries)
    → AreNewest new flat newer → newer ≡ flat
newest-same entries new flat newer are found newest = λ i page. (each page) i where
  each : (page : PageView) → newer page ≡ flat page
  each page = newest page ∙ ap (image_or (flat page)) (found page) ∙ as-held entries flat are page

-- where a store took effect in the frame of its page, it did in the newest image
pub newest-stored : (entries : Entries) (domain : ℕ) (store : PendingView) (tag : ℕ) (frame : Frame) (flat newer : PageView → PageImageView) → AreHeld entries flat
    → IsDistinct same_page (keys_of entries) → frame_of (page_of domain store.address) entries ≡ Some frame
    → AreNewest (frames_with domain store tag entries) flat newer → newer ≡ flat_with domain store tag flat
newest-stored entries domain store tag frame flat newer are apart held newest = λ i other. (each other) i where
  page : PageView
  page = page_of domain store.address

  by : (other : PageView) (b : Bool) → image_or (flat other) (if b then Some (written_frame (store.address % 4096) store.size store.value tag frame) else frame_of other entries)
      ≡ (if b then image_with store tag (flat page) else flat other)
  by other true = ap (image_with store tag) (are page frame held)
  by other false = as-held entries flat are other

  each : (other : PageView) → newer other ≡ flat_with domain store tag flat other
  each other = newest other
      ∙ ap (image_or (flat other)) (found-with_first (written_frame (store.address % 4096) store.size store.value tag) page frame entries apart held other)
      ∙ by other (same_page other page)
