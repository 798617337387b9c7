-- The images that kept ones stand for, where none is kept and where one is put in its place.
use Rattle.std.proofs.Common.{◌≡◌, ℕ, zero, suc, List, ◌∷◌, replicate, set, All, Option, Some, None, refl, sym, ap, subst, ◌∙◌}
use Rattle.std.specs.Global.{Box}
use Rattle.std.proofs.lemmas.List.{map-set}
use Rattle.std.proofs.lemmas.List.Elements.{All-set, All-replicate}
use Rattle.page_image.specs.PageImage.{PageImageView, IsPageImage, zero_image}
use Rattle.page_image.proofs.Callers.{IsPageImage-zero_image}
use Rattle.memory_blade.specs.Stored.{kept_or_zero, images_in}

none-kept : (n : ℕ) → images_in (replicate n None) ≡ replicate n zero_image
none-kept zero = refl
none-kept (suc n) = ap (λ (xs : List PageImageView). zero_image ∷ xs) (none-kept n)

-- of pages of which no image is kept
pub all-zero : (pages : List (Option (Box PageImageView))) (n : ℕ) → pages ≡ replicate n None → images_in pages ≡ replicate n zero_image
all-zero pages n e = ap images_in e ∙ none-kept n

pub all-zero-shape : (pages : List (Option (Box PageImageView))) (n : ℕ) → pages ≡ replicate n None → All IsPageImage (images_in pages)
all-zero-shape pages n e = subst (All IsPageImage) (sym (all-zero pages n e)) (All-replicate IsPageImage n zero_image IsPageImage-zero_image)

-- an image that is kept in the place of another
pub kept-set : (pages : List (Option (Box PageImageView))) (i : ℕ) (kept : Box PageImageView) (image : PageImageView) → kept.value ≡ image → images_in (set pages i (Some kept)) ≡ set (images_in pages) i image
kept-set pages i kept image e = map-set kept_or_zero pages i (Some kept) ∙ ap (set (images_in pages) i) e

pub kept-set-shape : (pages : List (Option (Box PageImageView))) (i : ℕ) (kept : Box PageImageView) (image : PageImageView) → kept.value ≡ image → IsPageImage image → All IsPageImage (images_in pages) → All IsPageImage (images_in (set pages i (Some kept)))
kept-set-shape pages i kept image e shape all = subst (All IsPageImage) (sym (kept-set pages i kept image e)) (All-set IsPageImage (images_in pages) i image shape all)

-- none that is kept in its place
pub none-set : (pages : List (Option (Box PageImageView))) (i : ℕ) → images_in (set pages i None) ≡ set (images_in pages) i zero_image
none-set pages i = map-set kept_or_zero pages i None

pub none-set-shape : (pages : List (Option (Box PageImageView))) (i : ℕ) → All IsPageImage (images_in pages) → All IsPageImage (images_in (set pages i None))
none-set-shape pages i all = subst (All IsPageImage) (sym (none-set pages i)) (All-set IsPageImage (images_in pages) i zero_image IsPageImage-zero_image all)
