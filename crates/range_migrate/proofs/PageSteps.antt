-- A spare page when a move is accepted: what its uses were, and what they become.
use Rattle.std.proofs.Common.{◌≡◌, ℕ, ◌+◌, ◌-◌, ◌<◌, ◌≤◌, ◌^◌, ◌↔◌, ◌⊎◌, Bool, true, false, cond, ◌&&◌, ◌==◌, nat_lt, nat_le, List, [], ◌∷◌, length, filter, refl, subst, arith, inl, inr}
use Rattle.std.specs.List.{AllByRecursion}
use Rattle.std.proofs.lemmas.Bool.{cases_Bool, cases_lt, false≢true}
use Rattle.std.proofs.lemmas.Bool.Decides.{nat_tests}
use Rattle.mind_base.specs.declared.plans.MemoryPlan.{MemoryPlan}
use Rattle.range_translate.specs.declared.outliers.Outlier.{Outlier}
use Rattle.range_migrate.specs.Run.{spare_pages, has_spare_page, first_spare_of, users, FitsRun}

-- Before: free where it is a spare page without use, and used at most once. The move takes it or not. Then the
-- uses inside the block are given up. After: the same again, with the use that the move makes of it.
pub page_step : (Free Between New Takes Inside : Type 0) (b : Bool) (u g n : ℕ) → n + g ≡ u → u ≤ 1 → (Free ↔ (Inside × (u ≡ 0)))
    → (Between ↔ (Free × (Takes → ⊥))) → (New ↔ (Between ⊎ (0 < g))) → (Takes → Free) → (b ≡ true → Takes) → (Takes → b ≡ true)
    → (0 < u → Inside) → (cond b 1 0 + n ≤ 1) × (New ↔ (Inside × (cond b 1 0 + n ≡ 0)))
page_step Free Between New Takes Inside true u g n parts once free between new takes to from inside =
    let t = to refl in
    let unused = (free.0 (takes t)).1 in
    (omega (arith, unused, parts), (λ w. absurd (none t unused (new.0 w)), λ w. absurd (some w.1))) where
      none : Takes → u ≡ 0 → (Between ⊎ (0 < g)) → ⊥
      none t z (inl w) = (between.0 w).1 t
      none t z (inr w) = omega (arith, w, z, parts)

      some : 1 + n ≡ 0 → ⊥
      some e = omega (arith, e)
page_step Free Between New Takes Inside false u g n parts once free between new takes to from inside =
    (omega (arith, once, parts), (λ w. there (new.0 w), λ w. new.1 (back w.0 (let z : n ≡ 0 = omega (arith, w.1) in z)))) where
      there : (Between ⊎ (0 < g)) → Inside × (0 + n ≡ 0)
      there (inl w) = let f = free.0 (between.0 w).0 in (f.0, omega (arith, f.1, parts))
      there (inr w) = (inside (omega (arith, w, parts)), omega (arith, w, parts, once))

      back : Inside → n ≡ 0 → Between ⊎ (0 < g)
      back w z = elim (cases_lt 0 g) [
        | inl l ↦ inr l
        | inr l ↦ inl (between.1 (free.1 (w, omega (arith, z, l, parts)), λ t. false≢true (from t)))
      ]

-- a test of the pages of a run
pub lies_to : (memory m hp first page size : ℕ) → (memory == m && nat_le (hp + first - hp) page && nat_lt page (hp + first - hp + size)) ≡ true → (memory ≡ m) × ((first ≤ page) × (page < first + size))
lies_to memory m hp first page size e = (grind (arith, nat_tests), (grind (arith, nat_tests), grind (arith, nat_tests)))

pub lies_from : (memory m hp first page size : ℕ) → memory ≡ m → first ≤ page → page < first + size → (memory == m && nat_le (hp + first - hp) page && nat_lt page (hp + first - hp + size)) ≡ true
lies_from memory m hp first page size e a b = grind (arith, nat_tests)

lies_of : (memory m first page size : ℕ) → (memory == m && nat_le first page && nat_lt page (first + size)) ≡ true → (memory ≡ m) × (page < first + size)
lies_of memory m first page size e = (grind (arith, nat_tests), grind (arith, nat_tests))

-- a page that is used is a spare page
pub used-inside : (homes : List MemoryPlan) (m page : ℕ) (xs : List Outlier) → AllByRecursion (FitsRun homes) xs → 0 < users homes xs m page → page < spare_pages homes m
used-inside homes m page [] fits l = absurd (omega (arith, l))
used-inside homes m page (x ∷ xs) fits l = elim (cases_Bool (has_spare_page homes m page x)) [
  | inl t ↦
      (let h = lies_of x.memory m (first_spare_of homes x) page (2 ^ x.range.log) t in
      let inside = fits.0.run.inside in
      subst (λ k. page < spare_pages homes k) h.0 (let w : page < spare_pages homes x.memory = omega (arith, inside, h.1) in w))
  | inr f ↦ used-inside homes m page xs fits.1 (subst (λ (b : Bool). 0 < length (cond b (x ∷ filter (has_spare_page homes m page) xs) (filter (has_spare_page homes m page) xs))) f l)
]
