-- The blocks in force and their peak, one note more at a time.
use Rattle.std.proofs.Common.{◌≡◌, ℕ, ◌+◌, ◌∙◌, max, List, [], ◌∷◌, ◌++◌, length, take, ap, sym, Some, arith, refl, add-one}
use Rattle.std.specs.Prelude.{fold}
use Rattle.std.specs.List.{slice_get}
use Rattle.std.specs.Ordering.{ord_max, nat_cmp}
use Rattle.std.proofs.lemmas.Grind.{common_steps}
use Rattle.mind_base.specs.Range.{RangeView}
use Rattle.mind_base.specs.declared.notes.Note.{Note}
use Rattle.tso_machine.proofs.Callers.{take-at}
use Rattle.report_text.specs.Force.{after_note, blocks_in_force, peak_within}

fold-end : (blocks : List RangeView) (notes : List Note) (note : Note)
    → fold after_note blocks (notes ++ note ∷ []) ≡ after_note (fold after_note blocks notes) note
fold-end blocks [] note = refl
fold-end blocks (n ∷ notes) note = fold-end (after_note blocks n) notes note

-- behind one more note
pub force-more : (notes : List Note) (i : ℕ) (note : Note) → slice_get notes i ≡ Some note
    → blocks_in_force (take (i + 1) notes) ≡ after_note (blocks_in_force (take i notes)) note
force-more notes i note e = ap blocks_in_force (take-at notes i note e) ∙ fold-end [] (take i notes) note

pub peak-more : (notes : List Note) (i : ℕ) → peak_within notes (i + 1) ≡ max (peak_within notes i) (length (blocks_in_force (take (i + 1) notes)))
peak-more notes i = rw (add-one) refl

-- the greater of two, as the code takes it
max-cond : (a b : ℕ) → ord_max nat_cmp a b ≡ max a b
max-cond a b = grind (arith, common_steps)

-- the greatest number so far, behind one more note
pub most-more : (notes : List Note) (i most len now : ℕ) → most ≡ peak_within notes i → len ≡ length (blocks_in_force (take (i + 1) notes)) → now ≡ ord_max nat_cmp most len
    → now ≡ peak_within notes (i + 1)
most-more notes i most len now e f g =
    g ∙ max-cond most len ∙ ap (λ m. max m len) e ∙ ap (λ n. max (peak_within notes i) n) f ∙ sym (peak-more notes i)
