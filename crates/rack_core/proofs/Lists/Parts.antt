-- What holds of the elements of a list, and of lists in parts.
use Rattle.std.proofs.Common.{◌≡◌, ℕ, zero, suc, refl, sym, subst, Bool, true, false, ◌||◌, List, [], ◌∷◌, ◌++◌, map, Option, Some, None}
use Rattle.std.specs.Prelude.{is_some, slice_get}
use Rattle.std.specs.List.{AllByRecursion}
use Rattle.std.specs.Set.{is_member}
use Rattle.std.proofs.lemmas.Bool.{false≢true}
use Rattle.switch_core.proofs.Callers.{all-append}

pub all-same : {X : Type 0} (P Q : X → Type 0) → ((x : X) → P x → Q x) → (xs : List X) → AllByRecursion P xs → AllByRecursion Q xs
all-same P Q w [] h = tt
all-same P Q w (x ∷ xs) h = (w x h.0, all-same P Q w xs h.1)

pub all-map : {X : Type 0} (P : X → Type 0) (f : X → X) (xs : List X) → ((x : X) → P x → P (f x)) → AllByRecursion P xs → AllByRecursion P (map f xs)
all-map P f [] k h = tt
all-map P f (x ∷ xs) k h = (k x h.0, all-map P f xs k h.1)

-- by a test that only equal keys pass, what is true of all keys is true of each
pub all-member : {K : Type 0} (same : K → K → Bool) → ((a b : K) → same a b ≡ true → a ≡ b) → (P : K → Type 0) (keys : List K) (key : K)
    → AllByRecursion P keys → is_member same keys key ≡ true → P key
all-member same equal P [] key all h = absurd (false≢true h)
all-member same equal P (k ∷ keys) key all h = by (same key k) refl h (λ g. all-member same equal P keys key all.1 g) where
  by : (t : Bool) → same key k ≡ t → (t || is_member same keys key) ≡ true → (is_member same keys key ≡ true → P key) → P key
  by true e g rest = subst P (sym (equal key k e)) all.0
  by false e g rest = rest g

-- what is true of each element by its number is true of all
pub all-from_got : {X : Type 0} (P : X → Type 0) (xs : List X) → ((i : ℕ) (x : X) → slice_get xs i ≡ Some x → P x) → AllByRecursion P xs
all-from_got P [] h = tt
all-from_got P (x ∷ xs) h = (h zero x refl, all-from_got P xs (λ i y at. h (suc i) y at))

-- ---- lists in parts

pub all-last : {X : Type 0} (P : X → Type 0) (xs : List X) (x : X) → AllByRecursion P xs → P x → AllByRecursion P (xs ++ x ∷ [])
all-last P xs x h p = all-append P xs (x ∷ []) h (p, tt)

pub all_front : {X : Type 0} (P : X → Type 0) (xs ys : List X) → AllByRecursion P (xs ++ ys) → AllByRecursion P xs × AllByRecursion P ys
all_front P [] ys all = (tt, all)
all_front P (x ∷ xs) ys all = let rest = all_front P xs ys all.1 in ((all.0, rest.0), rest.1)

pub append-none : {X : Type 0} (xs ys : List X) → xs ++ ys ≡ [] → (xs ≡ []) × (ys ≡ [])
append-none [] ys e = (refl, e)
append-none (x ∷ xs) ys e = let never : ⊥ = cc in absurd never

-- ---- what is there

pub some-is : {X : Type 0} (o : Option X) → is_some o ≡ true → (x : X) × (o ≡ Some x)
some-is None e = let never : ⊥ = cc in absurd never
some-is (Some x) e = (x, refl)
