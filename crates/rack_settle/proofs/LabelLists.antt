-- Lists with the same elements in any order.
use Rattle.std.proofs.Common.{◌≡◌, ℕ, zero, suc, ap, sym, refl, subst, List, [], ◌∷◌, ◌++◌, slice_get, slice_set, Some, arith}
use Rattle.std.specs.Prelude.{All}
use Rattle.std.specs.List.{flat_map}
use Rattle.std.specs.List.Sorted.{IsPermutation}
use Rattle.std.proofs.lemmas.List.{append_assoc, nil_from_length}
use Rattle.std.proofs.lemmas.List.Sorted.{IsPermutation-append_comm, IsPermutation-append_left, IsPermutation-append_right, IsPermutation-trans, All-permutation, length_permutation}
use Rattle.std.proofs.lemmas.Option.{same_Some}

-- the first two of three change places
pub exchange : {X : Type 0} (a b c : List X) → IsPermutation (a ++ (b ++ c)) (b ++ (a ++ c))
exchange a b c =
    subst (λ l. IsPermutation l (b ++ (a ++ c))) (append_assoc a b c)
    (subst (IsPermutation ((a ++ b) ++ c)) (append_assoc b a c) (IsPermutation-append_left c (a ++ b) (b ++ a) (IsPermutation-append_comm a b)))

-- what is true of two lists is true with the same elements behind them
pub with_behind : {X : Type 0} (now before asked after rest : List X) → IsPermutation (now ++ after) (asked ++ before) → IsPermutation (now ++ (after ++ rest)) (asked ++ (before ++ rest))
with_behind now before asked after rest same =
    subst (λ l. IsPermutation l (asked ++ (before ++ rest))) (append_assoc now after rest)
    (subst (IsPermutation ((now ++ after) ++ rest)) (append_assoc asked before rest) (IsPermutation-append_left rest (now ++ after) (asked ++ before) same))

-- and with the same elements between them
pub with_between : {X : Type 0} (now before asked after between : List X) → IsPermutation (now ++ after) (asked ++ before) → IsPermutation (now ++ (between ++ after)) (asked ++ (between ++ before))
with_between now before asked after between same =
    IsPermutation-trans _ _ _ (exchange now between after)
    (IsPermutation-trans _ _ _ (IsPermutation-append_right between (now ++ after) (asked ++ before) same) (exchange between asked before))

-- one element of a list changes, and with it its part of what all of them give
pub one-changed : {X A : Type 0} (f : X → List A) (now asked : List A) (xs : List X) (i : ℕ) (old new : X) → slice_get xs i ≡ Some old
    → IsPermutation (now ++ f new) (asked ++ f old) → IsPermutation (now ++ flat_map f (slice_set xs i new)) (asked ++ flat_map f xs)
one-changed f now asked [] i old new there same = let never : ⊥ = cc in absurd never
one-changed f now asked (x ∷ xs) zero old new there same =
    with_behind now (f x) asked (f new) (flat_map f xs) (subst (λ y. IsPermutation (now ++ f new) (asked ++ f y)) (sym (same_Some _ _ there)) same)
one-changed f now asked (x ∷ xs) (suc i) old new there same =
    with_between now (flat_map f xs) asked (flat_map f (slice_set xs i new)) (f x) (one-changed f now asked xs i old new there same)

-- two changes, one after another
pub both-changed : {X : Type 0} (first later asked more before mid after : List X) → IsPermutation (first ++ mid) (asked ++ before) → IsPermutation (later ++ after) (more ++ mid)
    → IsPermutation ((first ++ later) ++ after) ((asked ++ more) ++ before)
both-changed first later asked more before mid after one two =
    subst (λ l. IsPermutation l ((asked ++ more) ++ before)) (sym (append_assoc first later after))
    (subst (IsPermutation (first ++ (later ++ after))) (sym (append_assoc asked more before))
    (IsPermutation-trans _ _ _ (IsPermutation-append_right first (later ++ after) (more ++ mid) two)
    (IsPermutation-trans _ _ _ (exchange first more mid)
    (IsPermutation-trans _ _ _ (IsPermutation-append_right more (first ++ mid) (asked ++ before) one) (exchange more asked before)))))

-- ---- few elements

pub only-none : {X : Type 0} (xs : List X) → IsPermutation xs [] → xs ≡ []
only-none xs same = nil_from_length xs (sym (length_permutation xs [] same))

itself : {X : Type 0} (y : X) → All (λ z. z ≡ y) (y ∷ [])
itself y zero d below = refl
itself y (suc k) d below = let never : ⊥ = omega (arith, below) in absurd never

pub only-one : {X : Type 0} (xs : List X) (x : X) → IsPermutation xs (x ∷ []) → xs ≡ x ∷ []
only-one [] x same = let n = length_permutation [] (x ∷ []) same in let never : ⊥ = omega (arith, n) in absurd never
only-one (y ∷ []) x same = ap (λ z. z ∷ []) (sym (All-permutation (λ z. z ≡ y) (y ∷ []) (x ∷ []) same (itself y) 0 x (omega arith)))
only-one (y ∷ z ∷ xs) x same = let n = length_permutation (y ∷ z ∷ xs) (x ∷ []) same in let never : ⊥ = omega (arith, n) in absurd never
