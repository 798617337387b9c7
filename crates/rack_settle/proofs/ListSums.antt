-- Sums over a list when an element changes, comes or goes.
use Rattle.std.proofs.Common.{◌≡◌, refl, sym, ◌∙◌, ap, ℕ, ◌+◌, ◌≤◌, Bool, true, false, List, [], ◌∷◌, ◌++◌, map, filter, insert, remove, zero, suc, arith, Some}
use Rattle.std.specs.Prelude.{if◌then◌else◌, slice_get, slice_set}
use Rattle.std.specs.List.{sum, sum_by}
use Rattle.std.proofs.lemmas.List.Sums.{sum-map, sum_by-cons, sum_by-append, sum_by-insert}
use Rattle.std.proofs.lemmas.Option.{none-some, same_Some}
use Rattle.invalidate_multicast.specs.First.{first_changed}
use Rattle.region_directory.specs.Entry.{changed_at}
use Rattle.region_directory.specs.declared.entries.Entry.{Entry}

pub sum-first : {X : Type 0} (f : X → ℕ) (x : X) (xs : List X) → sum (map f (x ∷ xs)) ≡ f x + sum (map f xs)
sum-first f x xs = sum-map f (x ∷ xs) ∙ sum_by-cons f x xs ∙ ap (λ n. f x + n) (sym (sum-map f xs))

pub sum-joined : {X : Type 0} (f : X → ℕ) (xs ys : List X) → sum (map f (xs ++ ys)) ≡ sum (map f xs) + sum (map f ys)
sum-joined f xs ys =
    sum-map f (xs ++ ys) ∙ sum_by-append f xs ys ∙ ap (λ n. n + sum_by f ys) (sym (sum-map f xs)) ∙ ap (λ n. sum (map f xs) + n) (sym (sum-map f ys))

pub sum-inserted : {X : Type 0} (f : X → ℕ) (xs : List X) (i : ℕ) (x : X) → sum (map f (insert xs i x)) ≡ sum (map f xs) + f x
sum-inserted f xs i x = sum-map f (insert xs i x) ∙ sum_by-insert f xs i x ∙ ap (λ n. n + f x) (sym (sum-map f xs))

-- one element more, before two lists that are in order
more_before : (a b c d e : ℕ) → b ≡ a + c → e ≡ a + d → c ≤ d → b ≤ e
more_before a b c d e f g le = omega arith

less_before : (a c d e : ℕ) → e ≡ a + d → c ≤ d → c ≤ e
less_before a c d e g le = omega arith

pub sum-removed : {X : Type 0} (f : X → ℕ) (xs : List X) (i : ℕ) → sum (map f (remove xs i)) ≤ sum (map f xs)
sum-removed f [] zero = omega arith
sum-removed f [] (suc i) = omega arith
sum-removed f (x ∷ xs) zero = less_before (f x) _ _ _ (sum-first f x xs) (omega arith)
sum-removed f (x ∷ xs) (suc i) = more_before (f x) _ _ _ _ (sum-first f x (remove xs i)) (sum-first f x xs) (sum-removed f xs i)

pub sum-filtered : {X : Type 0} (f : X → ℕ) (test : X → Bool) (xs : List X) → sum (map f (filter test xs)) ≤ sum (map f xs)
sum-filtered f test [] = omega arith
sum-filtered f test (x ∷ xs) = by (test x) (sum-filtered f test xs) where
  by : (b : Bool) → sum (map f (filter test xs)) ≤ sum (map f xs) → sum (map f (if b then x ∷ filter test xs else filter test xs)) ≤ sum (map f (x ∷ xs))
  by true rest = more_before (f x) _ _ _ _ (sum-first f x (filter test xs)) (sum-first f x xs) rest
  by false rest = less_before (f x) _ _ _ (sum-first f x xs) rest

-- one element in the place of another
pub sum-set : {X : Type 0} (f : X → ℕ) (xs : List X) (i : ℕ) (old new : X) → slice_get xs i ≡ Some old → sum (map f (slice_set xs i new)) + f old ≡ sum (map f xs) + f new
sum-set f [] i old new at = absurd (none-some old at)
sum-set f (x ∷ xs) zero old new at =
    let same : f x ≡ f old = ap f (same_Some x old at) in
    plain _ _ _ _ _ _ (sum-first f new xs) (sum-first f x xs) same where
      plain : (a b c d s t : ℕ) → s ≡ a + d → t ≡ b + d → b ≡ c → s + c ≡ t + a
      plain a b c d s t g h e = omega arith
sum-set f (x ∷ xs) (suc i) old new at =
    plain _ _ _ _ _ _ _ (sum-first f x (slice_set xs i new)) (sum-first f x xs) (sum-set f xs i old new at) where
      plain : (a b c d e s t : ℕ) → s ≡ c + d → t ≡ c + e → d + a ≡ e + b → s + a ≡ t + b
      plain a b c d e s t g h rest = omega arith

-- where each element weighs as much as before, so does the list
pub sum-mapped : {X : Type 0} (f : X → ℕ) (g : X → X) (xs : List X) → ((x : X) → f (g x) ≡ f x) → sum (map f (map g xs)) ≡ sum (map f xs)
sum-mapped f g [] same = refl
sum-mapped f g (x ∷ xs) same =
    sum-first f (g x) (map g xs) ∙ ap (λ n. n + sum (map f (map g xs))) (same x) ∙ ap (λ n. f x + n) (sum-mapped f g xs same) ∙ sym (sum-first f x xs)

-- ---- entries of a directory

-- one entry changes: the sum is what it was, with the new entry for the old one
swapped : (a b c d e f : ℕ) → c ≡ a + d → e ≡ b + d → c + b ≡ e + a
swapped a b c d e f g h = omega arith

swapped_later : (a b c d e s t : ℕ) → s ≡ c + d → t ≡ c + e → d + a ≡ e + b → s + a ≡ t + b
swapped_later a b c d e s t g h rest = omega arith

pub sum-changed : (f : Entry → ℕ) (i : ℕ) (g : Entry → Entry) (es : List Entry) (e : Entry) → slice_get es i ≡ Some e → sum (map f (changed_at i g es)) + f e ≡ sum (map f es) + f (g e)
sum-changed f i g [] e at = absurd (none-some e at)
sum-changed f zero g (x ∷ es) e at =
    let same = same_Some x e at in
    ap (λ y. sum (map f (g x ∷ es)) + f y) (sym same)
    ∙ swapped (f (g x)) (f x) _ (sum (map f es)) _ 0 (sum-first f (g x) es) (sum-first f x es)
    ∙ ap (λ y. sum (map f (x ∷ es)) + f (g y)) same
sum-changed f (suc i) g (x ∷ es) e at =
    swapped_later (f e) (f (g e)) (f x) _ _ _ _ (sum-first f x (changed_at i g es)) (sum-first f x es) (sum-changed f i g es e at)

pub sum-first_changed : (f : Entry → ℕ) (test : Entry → Bool) (g : Entry → Entry) (es : List Entry) → ((e : Entry) → f (g e) ≡ f e) → sum (map f (first_changed test g es)) ≡ sum (map f es)
sum-first_changed f test g [] same = refl
sum-first_changed f test g (x ∷ es) same = by (test x) (sum-first_changed f test g es same) where
  by : (b : Bool) → sum (map f (first_changed test g es)) ≡ sum (map f es) → sum (map f (if b then g x ∷ es else x ∷ first_changed test g es)) ≡ sum (map f (x ∷ es))
  by true rest = sum-first f (g x) es ∙ ap (λ n. n + sum (map f es)) (same x) ∙ sym (sum-first f x es)
  by false rest = sum-first f x (first_changed test g es) ∙ ap (λ n. f x + n) rest ∙ sym (sum-first f x es)
