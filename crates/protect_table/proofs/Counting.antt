-- Sums, counts and tests over the numbers below a bound.
use Rattle.std.proofs.Common.{◌≡◌, ℕ, ◌+◌, ◌*◌, ◌<◌, ◌≤◌, Bool, true, false, zero, suc, refl, arith, below_more, add-suc, add-zero}
use Rattle.std.proofs.lemmas.Bool.{and_parts, and_from}
use Rattle.mind_base.specs.Cover.{count_below, sum_below, all_below}

pub all_below-holds : (test : ℕ → Bool) (n : ℕ) → all_below test n ≡ true → (i : ℕ) → i < n → test i ≡ true
unfolding all_below
all_below-holds test zero e i h = absurd (omega arith)
all_below-holds test (suc n) e i h =
    let p = and_parts (all_below test n) (test n) e in
    below_more (λ j. test j ≡ true) n (all_below-holds test n p.0) p.1 i (omega arith)

pub all_below-from : (test : ℕ → Bool) (n : ℕ) → ((i : ℕ) → i < n → test i ≡ true) → all_below test n ≡ true
unfolding all_below
all_below-from test zero h = refl
all_below-from test (suc n) h =
    and_from _ _ (all_below-from test n (λ i l. h i (omega arith))) (h n (omega arith))

-- what is made of the numbers below n, one after another, is the same where each step is
in_step : {A : Type 0} (f g : ℕ → A) → f 0 ≡ g 0 → (n : ℕ) → ((i : ℕ) → i < n → f i ≡ g i → f (suc i) ≡ g (suc i)) → f n ≡ g n
in_step f g start zero step = start
in_step f g start (suc n) step = step n (omega arith) (in_step f g start n (λ i l. step i (omega arith)))

pub all_below-same : (test other : ℕ → Bool) (n : ℕ) → ((i : ℕ) → i < n → test i ≡ other i) → all_below test n ≡ all_below other n
unfolding all_below
all_below-same test other n h = in_step (all_below test) (all_below other) refl n (λ i l e. rw (e, h i l) refl)

pub count_below-same : (test other : ℕ → Bool) (n : ℕ) → ((i : ℕ) → i < n → test i ≡ other i) → count_below test n ≡ count_below other n
unfolding count_below
count_below-same test other n h = in_step (count_below test) (count_below other) refl n (λ i l e. rw (e, h i l) refl)

pub count_below-none : (test : ℕ → Bool) (n : ℕ) → ((i : ℕ) → i < n → test i ≡ false) → count_below test n ≡ 0
unfolding count_below
count_below-none test n h = in_step (count_below test) (λ _. 0) refl n (λ i l e. rw (e, h i l) refl)

pub count_below-append : (test : ℕ → Bool) (a b : ℕ) → count_below test (a + b) ≡ count_below test a + count_below (λ j. test (a + j)) b
unfolding count_below
count_below-append test a zero = simp add-zero (omega arith)
count_below-append test a (suc b) = rw add-suc (rw (count_below-append test a b) (omega arith))

pub sum_below-same : (f g : ℕ → ℕ) (n : ℕ) → ((i : ℕ) → i < n → f i ≡ g i) → sum_below f n ≡ sum_below g n
unfolding sum_below
sum_below-same f g n h = in_step (sum_below f) (sum_below g) refl n (λ i l e. omega (arith, e, h i l))

pub sum_below-none : (f : ℕ → ℕ) (n : ℕ) → ((i : ℕ) → i < n → f i ≡ 0) → sum_below f n ≡ 0
unfolding sum_below
sum_below-none f n h = in_step (sum_below f) (λ _. 0) refl n (λ i l e. omega (arith, e, h i l))

pub sum_below-add : (f g h : ℕ → ℕ) (n : ℕ) → ((i : ℕ) → i < n → f i ≡ g i + h i) → sum_below f n ≡ sum_below g n + sum_below h n
unfolding sum_below
sum_below-add f g h n e = in_step (sum_below f) (λ m. sum_below g m + sum_below h m) refl n (λ i l r. omega (arith, r, e i l))

-- the first term taken off
pub sum_below-first : (f : ℕ → ℕ) (n : ℕ) → sum_below f (suc n) ≡ f 0 + sum_below (λ i. f (suc i)) n
unfolding sum_below
sum_below-first f zero = omega arith
sum_below-first f (suc n) = omega (arith, sum_below-first f n)

pub sum_below-most : (f : ℕ → ℕ) (n most : ℕ) → ((i : ℕ) → i < n → f i ≤ most) → sum_below f n ≤ n * most
unfolding sum_below
sum_below-most f zero most h = omega arith
sum_below-most f (suc n) most h =
    let r = sum_below-most f n most (λ i l. h i (omega arith)) in
    let t = h n (omega arith) in
    omega (arith, r, t)
