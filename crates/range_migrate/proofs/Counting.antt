-- How many elements of a list pass a test.
use Rattle.std.proofs.Common.{◌≡◌, ℕ, suc, ◌+◌, Bool, true, false, cond, not, ◌&&◌, ◌||◌, nat_lt, List, [], ◌∷◌, length, filter, refl, sym, ap, ◌∙◌, arith}
use Rattle.std.specs.List.{list_any}
use Rattle.std.proofs.lemmas.Bool.Decides.{nat_tests}

-- two tests that say the same leave the same
pub filter-same : {X : Type 0} (t u : X → Bool) (xs : List X) → ((x : X) → t x ≡ u x) → filter t xs ≡ filter u xs
filter-same t u [] h = refl
filter-same t u (x ∷ xs) h = ap (λ b. cond b (x ∷ filter t xs) (filter t xs)) (h x) ∙ ap (λ ys. cond (u x) (x ∷ ys) ys) (filter-same t u xs h)

-- one test behind another
pub filter-filter : {X : Type 0} (t u : X → Bool) (xs : List X) → filter t (filter u xs) ≡ filter (λ x. u x && t x) xs
filter-filter {X} t u [] = refl
filter-filter {X} t u (x ∷ xs) = step (u x) (filter u xs) (filter (λ y. u y && t y) xs) (filter-filter t u xs) where
  step : (b : Bool) (ys zs : List X) → filter t ys ≡ zs → filter t (cond b (x ∷ ys) ys) ≡ cond (b && t x) (x ∷ zs) zs
  step true ys zs e = ap (λ ws. cond (t x) (x ∷ ws) ws) e
  step false ys zs e = e

-- those that pass a test are inside or outside
pub parts_of_test : {X : Type 0} (t p : X → Bool) (xs : List X) →
    length (filter (λ x. not (p x) && t x) xs) + length (filter (λ x. p x && t x) xs) ≡ length (filter t xs)
parts_of_test {X} t p [] = refl
parts_of_test {X} t p (x ∷ xs) = step (p x) (t x) (filter (λ y. not (p y) && t y) xs) (filter (λ y. p y && t y) xs) (filter t xs) (parts_of_test t p xs) where
  step : (a b : Bool) (ys zs ws : List X) → length ys + length zs ≡ length ws →
      length (cond (not a && b) (x ∷ ys) ys) + length (cond (a && b) (x ∷ zs) zs) ≡ length (cond b (x ∷ ws) ws)
  step true true ys zs ws e = omega (arith, e)
  step true false ys zs ws e = e
  step false true ys zs ws e = omega (arith, e)
  step false false ys zs ws e = e

pub parts_of_all : {X : Type 0} (p : X → Bool) (xs : List X) → length (filter (λ x. not (p x)) xs) + length (filter p xs) ≡ length xs
parts_of_all {X} p [] = refl
parts_of_all {X} p (x ∷ xs) = step (p x) (filter (λ y. not (p y)) xs) (filter p xs) xs (parts_of_all p xs) where
  step : (a : Bool) (ys zs ws : List X) → length ys + length zs ≡ length ws → length (cond (not a) (x ∷ ys) ys) + length (cond a (x ∷ zs) zs) ≡ length (x ∷ ws)
  step true ys zs ws e = omega (arith, e)
  step false ys zs ws e = omega (arith, e)

more : (n : ℕ) → nat_lt 0 (suc n) ≡ true
more n = grind (arith, nat_tests)

-- some element passes where more than none does
pub any-count : {X : Type 0} (t : X → Bool) (xs : List X) → list_any t xs ≡ nat_lt 0 (length (filter t xs))
any-count {X} t [] = refl
any-count {X} t (x ∷ xs) = step (t x) (filter t xs) (list_any t xs) (any-count t xs) where
  step : (b : Bool) (ys : List X) (s : Bool) → s ≡ nat_lt 0 (length ys) → b || s ≡ nat_lt 0 (length (cond b (x ∷ ys) ys))
  step true ys s e = sym (more (length ys))
  step false ys s e = e

pub none_more : {X : Type 0} (t u : X → Bool) (xs : List X) → length (filter t xs) ≡ 0 → length (filter (λ x. u x && t x) xs) ≡ 0
none_more t u xs e = let p = parts_of_test t u xs in omega (arith, e, p)

-- a test as a count
abbrev pub bit_of : Bool → ℕ
bit_of b = cond b 1 0
