-- Images that become zero one after another.
use Rattle.std.proofs.Common.{◌≡◌, ℕ, ◌+◌, ◌<◌, List, [], ◌∷◌, ◌++◌, length, take, drop, replicate, set, refl, sym, ap, ◌∙◌, arith, append_assoc, append-nil}
use Rattle.std.proofs.lemmas.List.{take_more_set, drop-set-lt, drop-drop, replicate_more, take-append-drop, length-set}
use Rattle.page_image.specs.PageImage.{PageImageView, zero_image}
use Rattle.memory_blade.specs.MemoryBlade.{with_zeros}

-- so many images from this number on are zero by now, and the others as they were
pub record AreZero (old now : List PageImageView) (first count : ℕ) : Type 0 where
  pub front : take (first + count) now ≡ take first old ++ replicate count zero_image
  pub rest : drop (first + count) now ≡ drop (first + count) old
  pub counted : length now ≡ length old

pub AreZero-none : (old : List PageImageView) (first : ℕ) → AreZero old old first 0
AreZero-none old first =
    let none : first + 0 ≡ first = omega arith in
    record { front = ap (λ (n : ℕ). take n old) none ∙ sym (append-nil (take first old)); rest = refl; counted = refl }

pub AreZero-more : (old now : List PageImageView) (first count : ℕ) → AreZero old now first count → first + count < length now → AreZero old (set now (first + count) zero_image) first (count + 1)
AreZero-more old now first count so_far inside =
    let at : first + (count + 1) ≡ first + count + 1 = omega arith in
    record {
      front =
          ap (λ (n : ℕ). take n (set now (first + count) zero_image)) at
          ∙ take_more_set now (first + count) zero_image inside
          ∙ ap (λ (xs : List PageImageView). xs ++ zero_image ∷ []) so_far.front
          ∙ append_assoc (take first old) (replicate count zero_image) (zero_image ∷ [])
          ∙ ap (λ (xs : List PageImageView). take first old ++ xs) (replicate_more count zero_image);
      rest =
          drop-set-lt (first + (count + 1)) now (first + count) zero_image (omega arith)
          ∙ ap (λ (n : ℕ). drop n now) at
          ∙ sym (drop-drop 1 (first + count) now)
          ∙ ap (drop 1) so_far.rest
          ∙ drop-drop 1 (first + count) old
          ∙ ap (λ (n : ℕ). drop n old) (sym at);
      counted = length-set now (first + count) zero_image ∙ so_far.counted;
    }

-- the images when all are zero
pub with_zeros-done : (old now : List PageImageView) (first count : ℕ) → AreZero old now first count → now ≡ with_zeros old first count
with_zeros-done old now first count so_far =
    sym (take-append-drop (first + count) now)
    ∙ ap (λ (xs : List PageImageView). xs ++ drop (first + count) now) so_far.front
    ∙ ap (λ (xs : List PageImageView). (take first old ++ replicate count zero_image) ++ xs) so_far.rest
    ∙ append_assoc (take first old) (replicate count zero_image) (drop (first + count) old)
