-- What callers' proofs cite of the definitions of an image.
use Rattle.std.proofs.Common.{◌≡◌, ℕ, zero, suc, ◌+◌, ◌-◌, ◌*◌, ◌/◌, ◌^◌, ◌<◌, ◌≤◌, List, [], ◌∷◌, ◌++◌, length, take, drop, replicate, get_or, set, refl, sym, ap, subst, ◌∙◌, arith, All, length-append, length-drop}
use Rattle.std.specs.Int.{w32, w64, from_le_bytes, to_le_bytes, from_be_bytes, to_be_bytes, byte_at, bytes_low_first}
use Rattle.std.specs.List.{flat_map}
use Rattle.std.proofs.lemmas.List.{get_or-replicate, length-replicate, length-take-le, get_or-drop, flat_map_more, take-append-drop}
use Rattle.std.proofs.lemmas.List.Elements.{All-append, All-take, All-drop, All-set, All-cons, All-nil}
use Rattle.std.proofs.Math.ListN.{length-set}
use Rattle.std.proofs.Math.Seq.{take-add, take-append_seam, drop-append_seam}
use Rattle.std.proofs.lemmas.Nat.{from_be_bytes-to_be_bytes_8}
use Rattle.std.proofs.lemmas.Grind.{get_or_default_zero}
use Rattle.mind_base.proofs.Callers as stored
use Rattle.page_image.specs.PageImage.{PageImageView, IsPageImage, IsInside, number_at, image_after, zero_image, spelling_of}

-- an access ends inside the page
pub end_inside : (offset size : ℕ) → IsInside offset size → offset + size ≤ 4096
end_inside offset size h = omega (arith, h.inside, stored.end_inside offset size h.aligned)

-- zeros behind the bytes of a number change nothing
get_or-zeros : (xs zeros : List ℕ) → ((k : ℕ) → get_or zeros k 0 ≡ 0) → (i : ℕ) → get_or (xs ++ zeros) i 0 ≡ get_or xs i 0
get_or-zeros [] zeros h i = h i
get_or-zeros (x ∷ xs) zeros h zero = refl
get_or-zeros (x ∷ xs) zeros h (suc i) = get_or-zeros xs zeros h i

pub from_le_bytes-zeros : (xs zeros : List ℕ) → ((k : ℕ) → get_or zeros k 0 ≡ 0) → from_le_bytes w32 (xs ++ zeros) ≡ from_le_bytes w32 xs
from_le_bytes-zeros xs zeros h =
    rw (get_or-zeros xs zeros h 0, get_or-zeros xs zeros h 1, get_or-zeros xs zeros h 2, get_or-zeros xs zeros h 3)

is_byte : (value i : ℕ) → byte_at i value < 256
is_byte value zero = omega arith
is_byte value (suc i) = omega arith

low_first_range : (k i value : ℕ) → All (λ byte. byte < 256) (bytes_low_first i k value)
low_first_range zero i value = All-nil (λ byte. byte < 256)
low_first_range (suc k) i value =
    All-cons (λ byte. byte < 256) (byte_at i value) (bytes_low_first (suc i) k value) (is_byte value i) (low_first_range k (suc i) value)

-- each byte of a number is a byte
pub byte_range : (value : ℕ) → All (λ byte. byte < 256) (to_le_bytes w32 value)
byte_range value = low_first_range 4 0 value

-- the bytes are as many after a store
pub length-write : (bytes : List ℕ) (offset size value : ℕ) → length bytes ≡ 4096 → IsInside offset size → length (take offset bytes ++ (take size (to_le_bytes w32 value) ++ drop (offset + size) bytes)) ≡ 4096
length-write bytes offset size value count inside =
    let end : offset + size ≤ 4096 = end_inside offset size inside in
    let before : length (take offset bytes) ≡ offset = length-take-le offset bytes (rw count (omega arith)) in
    let new : length (take size (to_le_bytes w32 value)) ≡ size = length-take-le size (to_le_bytes w32 value) (stored.size_le_4 offset size inside.aligned) in
    let after : length (drop (offset + size) bytes) ≡ 4096 - (offset + size) = length-drop (offset + size) bytes ∙ rw count refl in
    simp length-append (rw (before, new, after) (omega arith))

-- a store leaves an image
pub IsPageImage-image_after : (image : PageImageView) (offset size value tag : ℕ) → IsPageImage image → IsInside offset size → tag < 2 ^ 64 → IsPageImage (image_after image offset size value tag)
unfolding image_after
IsPageImage-image_after image offset size value tag is inside fits = record {
  byte_count = length-write image.bytes offset size value is.byte_count inside;
  tag_count = length-set image.tags (offset / 64) tag ∙ is.tag_count;
  byte_range =
      let P : ℕ → Type 0 = λ byte. byte < 256 in
      All-append P _ _ (All-take P offset image.bytes is.byte_range) (All-append P _ _ (All-take P size (to_le_bytes w32 value) (byte_range value)) (All-drop P (offset + size) image.bytes is.byte_range));
  tag_range = let P : ℕ → Type 0 = λ t. t < 2 ^ 64 in All-set P image.tags (offset / 64) tag fits is.tag_range;
}

All-replicate : (P : ℕ → Type 0) (n a : ℕ) → P a → All P (replicate n a)
All-replicate P n a h k d lt = let below : k < n = rw length-replicate at lt in rw (get_or-replicate n k a d below) h

pub IsPageImage-zero_image : IsPageImage zero_image
unfolding zero_image
IsPageImage-zero_image = record {
  byte_count = length-replicate {A = ℕ} 4096 0;
  tag_count = length-replicate {A = ℕ} 64 0;
  byte_range = All-replicate (λ byte. byte < 256) 4096 0 (omega arith);
  tag_range = All-replicate (λ t. t < 2 ^ 64) 64 0 (omega arith);
}

-- zeros are the zero image
pub view-zeros : (bytes tags : List ℕ) → bytes ≡ replicate 4096 0 → tags ≡ replicate 64 0 → let v : PageImageView = record { bytes = bytes; tags = tags } in v ≡ zero_image
unfolding zero_image
view-zeros bytes tags p q = λ i. record { bytes = p i; tags = q i }

-- a number that is read from the bytes, filled up with zeros
pub number_at-read : (image : PageImageView) (offset size number : ℕ) (part zeros : List ℕ) → part ≡ take size (drop offset image.bytes) → ((k : ℕ) → get_or zeros k 0 ≡ 0) → number ≡ from_le_bytes w32 (part ++ zeros) → number ≡ number_at image offset size
unfolding number_at
number_at-read image offset size number part zeros p z e = e ∙ (from_le_bytes-zeros part zeros z ∙ ap (from_le_bytes w32) p)

abbrev zero_word : List ℕ
zero_word = 0 ∷ 0 ∷ 0 ∷ 0 ∷ []

get_or-zero_word : (i : ℕ) → get_or zero_word i 0 ≡ 0
get_or-zero_word zero = refl
get_or-zero_word (suc zero) = refl
get_or-zero_word (suc (suc zero)) = refl
get_or-zero_word (suc (suc (suc zero))) = refl
get_or-zero_word (suc (suc (suc (suc i)))) = refl

-- what is left of four zeros is zero
pub get_or-drop-zero_word : (size k : ℕ) → get_or (drop size zero_word) k 0 ≡ 0
get_or-drop-zero_word size k = get_or-drop size zero_word k 0 ∙ get_or-zero_word (size + k)

-- bytes and tags that are written are those of the image after the store
pub view-write : (image : PageImageView) (offset size value tag : ℕ) (bytes tags : List ℕ) → bytes ≡ take offset image.bytes ++ (take size (to_le_bytes w32 value) ++ drop (offset + size) image.bytes) → tags ≡ set image.tags (offset / 64) tag → let v : PageImageView = record { bytes = bytes; tags = tags } in v ≡ image_after image offset size value tag
unfolding image_after
view-write image offset size value tag bytes tags p q = λ i. record { bytes = p i; tags = q i }

-- so many tags were read from the bytes
pub record ReadsTags (tags bytes : List ℕ) (count : ℕ) : Type 0 where
  pub spelled : flat_map (to_be_bytes w64) tags ≡ take (8 * count) bytes
  pub counted : length tags ≡ count
  pub range : All (λ tag. tag < 2 ^ 64) tags

-- one more tag is read
pub ReadsTags-more : (tags bytes : List ℕ) (count tag : ℕ) → ReadsTags tags bytes count → to_be_bytes w64 tag ≡ take 8 (drop (8 * count) bytes) → tag < 2 ^ 64 → ReadsTags (tags ++ tag ∷ []) bytes (count + 1)
ReadsTags-more tags bytes count tag so_far next fits =
    let more : 8 * (count + 1) ≡ 8 * count + 8 = omega arith in
    let P : ℕ → Type 0 = λ t. t < 2 ^ 64 in
    record {
      spelled = sym (flat_map_more (to_be_bytes w64) [] tags tag) ∙ rw (more, take-add (8 * count) 8 bytes, so_far.spelled, next) refl;
      counted = length-append tags (tag ∷ []) ∙ ap (λ n. n + 1) so_far.counted;
      range = All-append P tags (tag ∷ []) so_far.range (All-cons P tag [] fits (All-nil P));
    }

-- a spelling is the bytes and the tags, spelled
pub spelling_of-parts : (image : PageImageView) → spelling_of image ≡ image.bytes ++ flat_map (to_be_bytes w64) image.tags
unfolding spelling_of
spelling_of-parts image = refl

length-to_be_bytes : (tags : List ℕ) → length (flat_map (to_be_bytes w64) tags) ≡ 8 * length tags
length-to_be_bytes [] = refl
length-to_be_bytes (tag ∷ tags) = omega (arith, length-to_be_bytes tags)

-- an image is spelled in 4608 bytes
pub length-spelling_of : (image : PageImageView) → IsPageImage image → length (spelling_of image) ≡ 4608
length-spelling_of image is =
    rw (spelling_of-parts, length-append, length-to_be_bytes, is.byte_count, is.tag_count) refl

-- tags that are spelled alike are alike
tags_alike : (xs ys : List ℕ) → length xs ≡ length ys → All (λ t. t < 2 ^ 64) xs → All (λ t. t < 2 ^ 64) ys → flat_map (to_be_bytes w64) xs ≡ flat_map (to_be_bytes w64) ys → xs ≡ ys
tags_alike [] [] n p q e = refl
tags_alike [] (y ∷ ys) n p q e = absurd (omega arith)
tags_alike (x ∷ xs) [] n p q e = absurd (omega arith)
tags_alike (x ∷ xs) (y ∷ ys) n p q e =
    let head : to_be_bytes w64 x ≡ to_be_bytes w64 y = ap (take 8) e in
    let same : x ≡ y = sym (from_be_bytes-to_be_bytes_8 x (p 0 0 (omega arith))) ∙ (ap (from_be_bytes w64) head ∙ from_be_bytes-to_be_bytes_8 y (q 0 0 (omega arith))) in
    let rest : xs ≡ ys = tags_alike xs ys (omega arith) (λ k d lt. p (suc k) d (omega arith)) (λ k d lt. q (suc k) d (omega arith)) (ap (drop 8) e) in
    λ i. same i ∷ rest i

-- images that are spelled alike are alike
pub spelled_alike : (a b : PageImageView) → IsPageImage a → IsPageImage b → spelling_of a ≡ spelling_of b → a ≡ b
unfolding spelling_of
spelled_alike a b p q e =
    let count : length a.bytes ≡ length b.bytes = p.byte_count ∙ sym q.byte_count in
    let bytes : a.bytes ≡ b.bytes = sym (take-append_seam a.bytes _) ∙ (ap (take (length a.bytes)) e ∙ (ap (λ n. take n (b.bytes ++ flat_map (to_be_bytes w64) b.tags)) count ∙ take-append_seam b.bytes _)) in
    let spelled : flat_map (to_be_bytes w64) a.tags ≡ flat_map (to_be_bytes w64) b.tags = sym (drop-append_seam a.bytes _) ∙ (ap (drop (length a.bytes)) e ∙ (ap (λ n. drop n (b.bytes ++ flat_map (to_be_bytes w64) b.tags)) count ∙ drop-append_seam b.bytes _)) in
    let tags : a.tags ≡ b.tags = tags_alike a.tags b.tags (p.tag_count ∙ sym q.tag_count) p.tag_range q.tag_range spelled in
    λ i. record { bytes = bytes i; tags = tags i }

-- bytes of the right count, and the tags that the rest of them spell, are spelled by them
pub spelling_of-read : (bytes tags all : List ℕ) → bytes ≡ take 4096 all → flat_map (to_be_bytes w64) tags ≡ drop 4096 all → let image : PageImageView = record { bytes = bytes; tags = tags } in spelling_of image ≡ all
unfolding spelling_of
spelling_of-read bytes tags all p q = rw (p, q) (take-append-drop 4096 all)

-- what is read from 4608 bytes is an image
pub IsPageImage-read : (bytes tags all : List ℕ) → length all ≡ 4608 → ((i : ℕ) → get_or all i 0 < 256) → bytes ≡ take 4096 all → length tags ≡ 64 → All (λ tag. tag < 2 ^ 64) tags → IsPageImage (record { bytes = bytes; tags = tags })
IsPageImage-read bytes tags all count range p tag_count tag_range = record {
  byte_count = ap length p ∙ length-take-le 4096 all (rw count (omega arith));
  tag_count = tag_count;
  byte_range = subst (All (λ byte. byte < 256)) (sym p) (All-take (λ byte. byte < 256) 4096 all each);
  tag_range = tag_range;
} where
  each : All (λ byte. byte < 256) all
  each k d lt = rw (get_or_default_zero all k d lt) (range k)
