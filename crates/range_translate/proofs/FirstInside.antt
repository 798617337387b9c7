-- The first outlier of an ordered list inside a block comes before all others inside it.
use Rattle.std.proofs.Common.{◌≡◌, ◌⊎◌, Bool, true, false, cond, List, [], ◌∷◌, Some, IsTrue, IfSome, All, refl, sym, ◌∙◌, inl, inr}
use Rattle.std.specs.List.{AllByRecursion, find}
use Rattle.std.proofs.lemmas.Bool.{false≢true}
use Rattle.std.proofs.lemmas.Option.{IfSome_then}
use Rattle.std.proofs.lemmas.List.Elements.{All-from_recursion}
use Rattle.mind_base.specs.Range.{RangeView}
use Rattle.range_translate.specs.Block.{block_lies_inside, comes_before}
use Rattle.range_translate.specs.Order.{IsOrdered}
use Rattle.range_translate.specs.declared.outliers.Outlier.{Outlier}

abbrev ComesFirst : RangeView → Outlier → Outlier → Type 0
ComesFirst r o p = IsTrue (block_lies_inside p.range r) → (p ≡ o) ⊎ IsTrue (comes_before o.range p.range)

behind : (r : RangeView) (o : Outlier) (xs : List Outlier) → AllByRecursion (λ p. IsTrue (comes_before o.range p.range)) xs → AllByRecursion (ComesFirst r o) xs
behind r o [] h = tt
behind r o (x ∷ xs) h = (λ _. inr h.0, behind r o xs h.1)

found_first : (r : RangeView) (xs : List Outlier) → IsOrdered xs → IfSome (find (λ o. block_lies_inside o.range r) xs) (λ o. AllByRecursion (ComesFirst r o) xs)
found_first r [] ordered = tt
found_first r (x ∷ xs) ordered = step (block_lies_inside x.range r) refl (found_first r xs ordered.1) where
  later : block_lies_inside x.range r ≡ false → IfSome (find (λ o. block_lies_inside o.range r) xs) (λ o. AllByRecursion (ComesFirst r o) xs) → IfSome (find (λ o. block_lies_inside o.range r) xs) (λ o. AllByRecursion (ComesFirst r o) (x ∷ xs))
  later e rest = IfSome_then (find (λ o. block_lies_inside o.range r) xs) {P = λ o. AllByRecursion (ComesFirst r o) xs} {Q = λ o. AllByRecursion (ComesFirst r o) (x ∷ xs)}
      rest (λ o h. (λ t. absurd (false≢true (sym e ∙ t)), h))

  step : (b : Bool) → block_lies_inside x.range r ≡ b → IfSome (find (λ o. block_lies_inside o.range r) xs) (λ o. AllByRecursion (ComesFirst r o) xs) → IfSome (cond b (Some x) (find (λ o. block_lies_inside o.range r) xs)) (λ o. AllByRecursion (ComesFirst r o) (x ∷ xs))
  step true e rest = (λ _. inl refl, behind r x xs ordered.0)
  step false e rest = later e rest

pub first_of : (r : RangeView) (xs : List Outlier) → IsOrdered xs → IfSome (find (λ o. block_lies_inside o.range r) xs) (λ o. All (λ p. IsTrue (block_lies_inside p.range r) → (p ≡ o) ⊎ IsTrue (comes_before o.range p.range)) xs)
first_of r xs ordered = IfSome_then (find (λ o. block_lies_inside o.range r) xs) {P = λ o. AllByRecursion (ComesFirst r o) xs} {Q = λ o. All (ComesFirst r o) xs}
    (found_first r xs ordered) (λ o h. All-from_recursion (ComesFirst r o) xs h)
