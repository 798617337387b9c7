-- How many elements pass a test, one element more at a time.
use Rattle.std.proofs.Common.{◌≡◌, ℕ, ◌+◌, ◌∙◌, Bool, true, false, cond, List, [], ◌∷◌, take, ap, Some, arith, refl}
use Rattle.std.specs.Prelude.{count_by}
use Rattle.std.specs.List.{slice_get}
use Rattle.std.proofs.lemmas.List.Sums.{sum_by-append}
use Rattle.mind_base.specs.declared.notes.Note.{Note}
use Rattle.tso_machine.proofs.Callers.{take-at}

count-more : (p : Note → Bool) (notes : List Note) (i : ℕ) (note : Note) → slice_get notes i ≡ Some note
    → count_by p (take (i + 1) notes) ≡ count_by p (take i notes) + count_by p (note ∷ [])
count-more p notes i note e = ap (count_by p) (take-at notes i note e) ∙ sum_by-append (λ n. cond (p n) 1 0) (take i notes) (note ∷ [])

one-passed : (p : Note → Bool) (note : Note) → p note ≡ true → count_by p (note ∷ []) ≡ 1
one-passed p note h = rw h refl

one-failed : (p : Note → Bool) (note : Note) → p note ≡ false → count_by p (note ∷ []) ≡ 0
one-failed p note h = rw h refl

-- an element that passes
pub count-passed : (p : Note → Bool) (notes : List Note) (i : ℕ) (note : Note) → slice_get notes i ≡ Some note → p note ≡ true
    → count_by p (take (i + 1) notes) ≡ count_by p (take i notes) + 1
count-passed p notes i note e h = omega (arith, count-more p notes i note e, one-passed p note h)

-- and one that does not
pub count-failed : (p : Note → Bool) (notes : List Note) (i : ℕ) (note : Note) → slice_get notes i ≡ Some note → p note ≡ false
    → count_by p (take (i + 1) notes) ≡ count_by p (take i notes)
count-failed p notes i note e h = omega (arith, count-more p notes i note e, one-failed p note h)
