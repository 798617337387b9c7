-- The places of set marks: where they stand, in which order, and what a filter leaves of them.
use Rattle.std.proofs.Common.{◌≡◌, ℕ, zero, suc, ◌+◌, ◌<◌, ◌≤◌, Bool, true, false, List, [], ◌∷◌, ◌++◌, length, replicate, filter, slice_get, Some, All, Contains, refl, ap, ◌∙◌, arith, add-one}
use Rattle.std.specs.List.{range_with_len}
use Rattle.std.specs.List.Sorted.{IsStrictlyIncreasing}
use Rattle.std.proofs.lemmas.List.Elements.{All-nil, All-cons, All-weaker}
use Rattle.spare_pool.specs.Marks.{marked_from}

pub Contains-there : (x : ℕ) (xs : List ℕ) (y : ℕ) → Contains xs y → Contains (x ∷ xs) y
Contains-there x xs y h = (suc h.0, omega (arith, h.1), h.2)

-- a mark that is set has its place in the list
pub place_of_mark : (n : ℕ) (marks : List Bool) (i p : ℕ) → p ≡ n + i → slice_get marks i ≡ Some true → Contains (marked_from n marks) p
place_of_mark n [] i p e s = absurd cc
place_of_mark n (true ∷ marks) zero p e s = (0, omega arith, omega arith)
place_of_mark n (true ∷ marks) (suc i) p e s = Contains-there n _ p (place_of_mark (n + 1) marks i p (omega arith) s)
place_of_mark n (false ∷ marks) zero p e s = absurd cc
place_of_mark n (false ∷ marks) (suc i) p e s = place_of_mark (n + 1) marks i p (omega arith) s

-- a mark of a later place, one place on
later : (n p : ℕ) (mark : Bool) (marks : List Bool) → (i : ℕ) × (p ≡ n + 1 + i) × (slice_get marks i ≡ Some true) → (i : ℕ) × (p ≡ n + i) × (slice_get (mark ∷ marks) i ≡ Some true)
later n p mark marks h = (suc h.0, omega (arith, h.1), h.2)

-- and the list has no other places
pub mark_of_place : (n : ℕ) (marks : List Bool) (p : ℕ) → Contains (marked_from n marks) p → (i : ℕ) × (p ≡ n + i) × (slice_get marks i ≡ Some true)
mark_of_place n [] p h = absurd (omega (arith, h.1))
mark_of_place n (true ∷ marks) p (zero, l, e) = (0, omega arith, refl)
mark_of_place n (true ∷ marks) p (suc k, l, e) = later n p true marks (mark_of_place (n + 1) marks p (k, omega (arith, l), e))
mark_of_place n (false ∷ marks) p h = later n p false marks (mark_of_place (n + 1) marks p h)

abbrev pub Between : ℕ → ℕ → ℕ → Type 0
Between low high p = (low ≤ p) × (p < high)

pub places-between : (n : ℕ) (marks : List Bool) → All (Between n (n + length marks)) (marked_from n marks)
places-between n [] = All-nil _
places-between n (true ∷ marks) = All-cons (Between n (n + suc (length marks))) n (marked_from (n + 1) marks) (omega arith, omega arith)
    (All-weaker (Between (n + 1) (n + 1 + length marks)) (Between n (n + suc (length marks))) (λ p h. (omega (arith, h.0), omega (arith, h.1))) _ (places-between (n + 1) marks))
places-between n (false ∷ marks) = All-weaker (Between (n + 1) (n + 1 + length marks)) (Between n (n + suc (length marks))) (λ p h. (omega (arith, h.0), omega (arith, h.1))) _ (places-between (n + 1) marks)

rising-cons : (x : ℕ) (xs : List ℕ) → All (λ y. x < y) xs → IsStrictlyIncreasing xs → IsStrictlyIncreasing (x ∷ xs)
rising-cons x xs above h zero l = above 0 0 (omega (arith, l))
rising-cons x xs above h (suc k) l = simp add-one (simp add-one at (h k (omega (arith, l))))

pub places-rising : (n : ℕ) (marks : List Bool) → IsStrictlyIncreasing (marked_from n marks)
places-rising n [] = λ k l. absurd (omega (arith, l))
places-rising n (true ∷ marks) = rising-cons n _ (All-weaker (Between (n + 1) (n + 1 + length marks)) (λ y. n < y) (λ p h. omega (arith, h.0)) _ (places-between (n + 1) marks)) (places-rising (n + 1) marks)
places-rising n (false ∷ marks) = places-rising (n + 1) marks

pub marked_from-append : (n : ℕ) (xs ys : List Bool) → marked_from n (xs ++ ys) ≡ marked_from n xs ++ marked_from (n + length xs) ys
marked_from-append n [] ys = ap (λ k. marked_from k ys) (omega arith)
marked_from-append n (true ∷ xs) ys = ap (λ zs. n ∷ zs) (marked_from-append (n + 1) xs ys ∙ ap (λ k. marked_from (n + 1) xs ++ marked_from k ys) (omega arith))
marked_from-append n (false ∷ xs) ys = marked_from-append (n + 1) xs ys ∙ ap (λ k. marked_from (n + 1) xs ++ marked_from k ys) (omega arith)

pub marked_from-set : (n k : ℕ) → marked_from n (replicate k true) ≡ range_with_len n k
marked_from-set n zero = refl
marked_from-set n (suc k) = ap (λ zs. n ∷ zs) (marked_from-set (n + 1) k)

pub marked_from-unset : (n k : ℕ) → marked_from n (replicate k false) ≡ []
marked_from-unset n zero = refl
marked_from-unset n (suc k) = marked_from-unset (n + 1) k

-- a test that passes at all places leaves them, one that passes at none leaves nothing
abbrev pub GivesBetween : (ℕ → Bool) → Bool → ℕ → ℕ → Type 0
GivesBetween test answer low high = (p : ℕ) → low ≤ p → p < high → test p ≡ answer

filter-kept : (test : ℕ → Bool) (x : ℕ) (xs ys : List ℕ) → test x ≡ true → filter test xs ≡ ys → filter test (x ∷ xs) ≡ x ∷ ys
filter-kept test x xs ys t e = rw t (ap (λ zs. x ∷ zs) e)

filter-left_out : (test : ℕ → Bool) (x : ℕ) (xs ys : List ℕ) → test x ≡ false → filter test xs ≡ ys → filter test (x ∷ xs) ≡ ys
filter-left_out test x xs ys t e = rw t e

pub filter-all_places : (test : ℕ → Bool) (n : ℕ) (marks : List Bool) → GivesBetween test true n (n + length marks) → filter test (marked_from n marks) ≡ marked_from n marks
filter-all_places test n [] h = refl
filter-all_places test n (true ∷ marks) h = filter-kept test n _ _ (h n (omega arith) (omega arith)) (filter-all_places test (n + 1) marks (λ p a b. h p (omega arith) (omega arith)))
filter-all_places test n (false ∷ marks) h = filter-all_places test (n + 1) marks (λ p a b. h p (omega arith) (omega arith))

pub filter-no_places : (test : ℕ → Bool) (n : ℕ) (marks : List Bool) → GivesBetween test false n (n + length marks) → filter test (marked_from n marks) ≡ []
filter-no_places test n [] h = refl
filter-no_places test n (true ∷ marks) h = filter-left_out test n _ _ (h n (omega arith) (omega arith)) (filter-no_places test (n + 1) marks (λ p a b. h p (omega arith) (omega arith)))
filter-no_places test n (false ∷ marks) h = filter-no_places test (n + 1) marks (λ p a b. h p (omega arith) (omega arith))
