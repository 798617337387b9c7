-- What a caller's proof cites: which bytes a number is made of, and each byte of an image after a store.
use Rattle.std.proofs.Common.{◌≡◌, ℕ, ◌+◌, ◌-◌, ◌*◌, ◌^◌, ◌<◌, ◌≤◌, ◌⊎◌, inl, inr, List, length, take, drop, get_or, ap, ◌∙◌, arith}
use Rattle.std.specs.Int.{w32, to_le_bytes}
use Rattle.std.proofs.lemmas.List.{get_or-take, get_or-drop, get_or_past, length-take, length-take-le, get_or_append_left, get_or-append_right}
use Rattle.mind_base.specs.Pending.{byte_number}
use Rattle.mind_base.proofs.Callers.{size_le_4, get_or-to_le_bytes}
use Rattle.page_image.specs.PageImage.{PageImageView, IsPageImage, IsInside, number_at, image_after}
use Rattle.page_image.proofs.Laws.{end_inside}

-- past the first n of a list there is nothing
get_or-past_take : (n i : ℕ) (l : List ℕ) → n ≤ i → get_or (take n l) i 0 ≡ 0
get_or-past_take n i l h = get_or_past (take n l) i 0 (rw length-take (omega arith))

get_or-run : (bytes : List ℕ) (offset n i : ℕ) → i < n → get_or (take n (drop offset bytes)) i 0 ≡ get_or bytes (offset + i) 0
get_or-run bytes offset n i h = get_or-take n (drop offset bytes) i 0 h ∙ get_or-drop offset bytes i 0

-- a number of one byte
pub number_at-1 : (image : PageImageView) (offset : ℕ) → number_at image offset 1 ≡ get_or image.bytes offset 0
unfolding number_at
number_at-1 image offset =
    let run = drop offset image.bytes in
    let first : get_or (take 1 run) 0 0 ≡ get_or image.bytes offset 0 = get_or-run image.bytes offset 1 0 (omega arith) ∙ ap (λ k. get_or image.bytes k 0) (omega arith) in
    rw (get_or-past_take 1 1 run (omega arith), get_or-past_take 1 2 run (omega arith), get_or-past_take 1 3 run (omega arith), first) (omega arith)

-- a number of two bytes
pub number_at-2 : (image : PageImageView) (offset : ℕ) → number_at image offset 2 ≡ get_or image.bytes offset 0 + get_or image.bytes (offset + 1) 0 * 256
unfolding number_at
number_at-2 image offset =
    let run = drop offset image.bytes in
    let first : get_or (take 2 run) 0 0 ≡ get_or image.bytes offset 0 = get_or-run image.bytes offset 2 0 (omega arith) ∙ ap (λ k. get_or image.bytes k 0) (omega arith) in
    rw (get_or-run image.bytes offset 2 1 (omega arith), get_or-past_take 2 2 run (omega arith), get_or-past_take 2 3 run (omega arith), first) (omega arith)

-- a number of four bytes
pub number_at-4 : (image : PageImageView) (offset : ℕ) → number_at image offset 4 ≡ get_or image.bytes offset 0 + get_or image.bytes (offset + 1) 0 * 256 + get_or image.bytes (offset + 2) 0 * 256 ^ 2 + get_or image.bytes (offset + 3) 0 * 256 ^ 3
unfolding number_at
number_at-4 image offset =
    let run = drop offset image.bytes in
    let first : get_or (take 4 run) 0 0 ≡ get_or image.bytes offset 0 = get_or-run image.bytes offset 4 0 (omega arith) ∙ ap (λ k. get_or image.bytes k 0) (omega arith) in
    rw (get_or-run image.bytes offset 4 1 (omega arith), get_or-run image.bytes offset 4 2 (omega arith), get_or-run image.bytes offset 4 3 (omega arith), first) (omega arith)

-- a byte that a store covers is that of its value
pub get_or-image_after-inside : (image : PageImageView) (offset size value tag k : ℕ) → IsPageImage image → IsInside offset size → offset ≤ k → k < offset + size → get_or (image_after image offset size value tag).bytes k 0 ≡ byte_number value (k - offset)
unfolding image_after
get_or-image_after-inside image offset size value tag k is inside from below =
    let end : offset + size ≤ 4096 = end_inside offset size inside in
    let short : size ≤ 4 = size_le_4 offset size inside.aligned in
    let before : length (take offset image.bytes) ≡ offset = length-take-le offset image.bytes (rw is.byte_count (omega arith)) in
    let new : length (take size (to_le_bytes w32 value)) ≡ size = length-take-le size (to_le_bytes w32 value) short in
    get_or-append_right (take offset image.bytes) _ offset k 0 before from
    ∙ (get_or_append_left (take size (to_le_bytes w32 value)) _ 0 (k - offset) (rw new (omega arith))
    ∙ (get_or-take size (to_le_bytes w32 value) (k - offset) 0 (omega arith)
    ∙ get_or-to_le_bytes value (k - offset) (omega arith)))

-- every other byte stays
pub get_or-image_after-outside : (image : PageImageView) (offset size value tag k : ℕ) → IsPageImage image → IsInside offset size → (k < offset) ⊎ (offset + size ≤ k) → get_or (image_after image offset size value tag).bytes k 0 ≡ get_or image.bytes k 0
unfolding image_after
get_or-image_after-outside image offset size value tag k is inside (inl low) =
    let end : offset + size ≤ 4096 = end_inside offset size inside in
    let before : length (take offset image.bytes) ≡ offset = length-take-le offset image.bytes (rw is.byte_count (omega arith)) in
    get_or_append_left (take offset image.bytes) _ 0 k (rw before low) ∙ get_or-take offset image.bytes k 0 low
get_or-image_after-outside image offset size value tag k is inside (inr high) =
    let end : offset + size ≤ 4096 = end_inside offset size inside in
    let short : size ≤ 4 = size_le_4 offset size inside.aligned in
    let before : length (take offset image.bytes) ≡ offset = length-take-le offset image.bytes (rw is.byte_count (omega arith)) in
    let new : length (take size (to_le_bytes w32 value)) ≡ size = length-take-le size (to_le_bytes w32 value) short in
    get_or-append_right (take offset image.bytes) _ offset k 0 before (omega arith)
    ∙ (get_or-append_right (take size (to_le_bytes w32 value)) _ size (k - offset) 0 new (omega arith)
    ∙ (get_or-drop (offset + size) image.bytes (k - offset - size) 0
    ∙ ap (λ j. get_or image.bytes j 0) (omega arith)))
