-- The bytes of a page after some are written over it.
use Rattle.std.proofs.Common.{◌≡◌, ℕ, ◌+◌, ◌-◌, ◌<◌, ◌≤◌, ◌⊎◌, inl, inr, ◌&&◌, cond, leb, ltb, List, ◌++◌, length, take, drop, get_or, ap, sym, ◌∙◌, arith, length-append, length-drop}
use Rattle.std.proofs.lemmas.Bool.{cases_lt}
use Rattle.std.proofs.lemmas.Bool.Decides.{nat_tests}
use Rattle.std.proofs.lemmas.List.{get_or-take, get_or-drop, length-take-le, get_or_append_left, get_or-append_right}
use Rattle.flat_memory.specs.FlatMemory.{written}

-- a choice by whether a number lies between two others
pub between-in : (low high k x y : ℕ) → low ≤ k → k < high → cond (leb low k && ltb k high) x y ≡ x
between-in low high k x y from below = grind (arith, nat_tests)

pub between-out : (low high k x y : ℕ) → (k < low) ⊎ (high ≤ k) → cond (leb low k && ltb k high) x y ≡ y
between-out low high k x y out = grind (arith, nat_tests)

-- each byte of a page over which some are copied
pub get_or-copied : (page bytes : List ℕ) (offset k : ℕ) → offset + length bytes ≤ length page → get_or (take offset page ++ (bytes ++ drop (offset + length bytes) page)) k 0 ≡ written page offset bytes k
get_or-copied page bytes offset k fits =
    let front : length (take offset page) ≡ offset = length-take-le offset page (omega arith) in
    elim (cases_lt k offset) [
      | inl low ↦
          get_or_append_left (take offset page) _ 0 k (rw front low)
          ∙ (get_or-take offset page k 0 low
          ∙ sym (between-out offset (offset + length bytes) k (get_or bytes (k - offset) 0) (get_or page k 0) (inl low)))
      | inr from ↦ elim (cases_lt k (offset + length bytes)) [
        | inl below ↦
            get_or-append_right (take offset page) _ offset k 0 front from
            ∙ (get_or_append_left bytes _ 0 (k - offset) (omega arith)
            ∙ sym (between-in offset (offset + length bytes) k (get_or bytes (k - offset) 0) (get_or page k 0) from below))
        | inr high ↦
            get_or-append_right (take offset page) _ offset k 0 front from
            ∙ (get_or-append_right bytes _ (length bytes) (k - offset) 0 (λ i. length bytes) (omega arith)
            ∙ (get_or-drop (offset + length bytes) page (k - offset - length bytes) 0
            ∙ (ap (λ j. get_or page j 0) (omega arith)
            ∙ sym (between-out offset (offset + length bytes) k (get_or bytes (k - offset) 0) (get_or page k 0) (inr high)))))
      ]
    ]

-- a page keeps its length when some bytes are copied over it
pub length-copied : (page bytes : List ℕ) (offset : ℕ) → offset + length bytes ≤ length page → length (take offset page ++ (bytes ++ drop (offset + length bytes) page)) ≡ length page
length-copied page bytes offset fits =
    let front : length (take offset page) ≡ offset = length-take-le offset page (omega arith) in
    simp (length-append, length-drop) (rw front (omega arith))
