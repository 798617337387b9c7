-- Lists of which every element has a property, numbers in a row, and lists with an element replaced.
use Rattle.std.proofs.Common.{◌≡◌, ℕ, zero, suc, ◌+◌, ◌==◌, false, List, [], ◌∷◌, ◌++◌, Some, slice_get, slice_set, refl, sym, ap, ◌∙◌, arith, add-one}
use Rattle.std.specs.List.{AllByRecursion, range_with_len}
use Rattle.std.proofs.lemmas.Bool.{eqb-true, eq-eqb, false_from_ne_true, false≢true}

pub all-append : {X : Type 0} (P : X → Type 0) (xs ys : List X) → AllByRecursion P xs → AllByRecursion P ys → AllByRecursion P (xs ++ ys)
all-append P [] ys h k = k
all-append P (x ∷ xs) ys h k = (h.0, all-append P xs ys h.1 k)

pub all-last : {X : Type 0} (P : X → Type 0) (xs : List X) (x : X) → AllByRecursion P xs → P x → AllByRecursion P (xs ++ x ∷ [])
all-last P xs x h p = all-append P xs (x ∷ []) h (p, tt)

pub all-parts : {X : Type 0} (P : X → Type 0) (xs ys : List X) → AllByRecursion P (xs ++ ys) → AllByRecursion P xs × AllByRecursion P ys
all-parts P [] ys all = (tt, all)
all-parts P (x ∷ xs) ys all = let rest = all-parts P xs ys all.1 in ((all.0, rest.0), rest.1)

range-more : (a n : ℕ) → range_with_len a (suc n) ≡ range_with_len a n ++ (a + n) ∷ []
range-more a zero = ap (λ (x : ℕ). x ∷ []) (omega arith)
range-more a (suc n) = ap (λ (xs : List ℕ). a ∷ xs) (range-more (a + 1) n ∙ ap (λ (x : ℕ). range_with_len (a + 1) n ++ x ∷ []) (omega arith))

-- one number more stands behind those in a row
pub range-one_more : (a n : ℕ) → range_with_len a (n + 1) ≡ range_with_len a n ++ (a + n) ∷ []
range-one_more a n = rw add-one (range-more a n)

-- an element that is replaced stands in its place
pub slice_get-set : {X : Type 0} (xs : List X) (i : ℕ) (old new : X) → slice_get xs i ≡ Some old → slice_get (slice_set xs i new) i ≡ Some new
slice_get-set [] i old new h = let never : ⊥ = cc in absurd never
slice_get-set (x ∷ xs) zero old new h = refl
slice_get-set (x ∷ xs) (suc i) old new h = slice_get-set xs i old new h

still-away : (j i : ℕ) → (suc j == suc i) ≡ false → (j == i) ≡ false
still-away j i h = false_from_ne_true (j == i) (λ same. false≢true (sym h ∙ eq-eqb (suc j) (suc i) (ap suc (eqb-true j i same))))

-- and the others stay
pub slice_get-set_other : {X : Type 0} (xs : List X) (i : ℕ) (new : X) (j : ℕ) → (j == i) ≡ false → slice_get (slice_set xs i new) j ≡ slice_get xs j
slice_get-set_other [] i new j h = refl
slice_get-set_other (x ∷ xs) zero new zero h = let never : ⊥ = cc in absurd never
slice_get-set_other (x ∷ xs) zero new (suc j) h = refl
slice_get-set_other (x ∷ xs) (suc i) new zero h = refl
slice_get-set_other (x ∷ xs) (suc i) new (suc j) h = slice_get-set_other xs i new j (still-away j i h)
