-- Sums of a number for each number below another one, when one of them changes.
use Rattle.std.proofs.Common.{◌≡◌, refl, sym, subst, ℕ, zero, suc, ◌+◌, ◌≤◌, Bool, true, false, ◌==◌, arith, eqb-true}
use Rattle.std.proofs.lemmas.Bool.Decides.{nat_tests}
use Rattle.mind_base.specs.Cover.{sum_below}
use Rattle.protect_table.proofs.Callers.{sum_below-same}

-- one number changes, which may be none of those that are summed
pub below-changed : (n k v w : ℕ) (f g : ℕ → ℕ) → ((i : ℕ) → (i == k) ≡ false → f i ≡ g i) → f k + v ≤ g k + w → (n ≤ k → v ≤ w) → sum_below f n + v ≤ sum_below g n + w
unfolding sum_below
below-changed zero k v w f g same here away = let le : v ≤ w = away (omega arith) in omega arith
below-changed (suc n) k v w f g same here away = by (n == k) refl (below-changed n k v w f g same here) where
  by : (b : Bool) → (n == k) ≡ b → ((n ≤ k → v ≤ w) → sum_below f n + v ≤ sum_below g n + w) → sum_below f n + f n + v ≤ sum_below g n + g n + w
  by true e shorter =
      let is : n ≡ k = eqb-true n k e in
      let rest : sum_below f n ≡ sum_below g n = sum_below-same f g n (λ i lt. same i (let no : (i == k) ≡ false = grind (arith, nat_tests) in no)) in
      let last : f n + v ≤ g n + w = subst (λ m. f m + v ≤ g m + w) (sym is) here in
      omega arith
  by false e shorter =
      let rest : sum_below f n + v ≤ sum_below g n + w = shorter (λ le. away (let lt : suc n ≤ k = grind (arith, nat_tests) in lt)) in
      let last : f n ≡ g n = same n e in
      omega arith
