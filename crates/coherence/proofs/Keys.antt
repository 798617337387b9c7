-- Functions with one value changed.
use Rattle.std.proofs.Common.{◌≡◌, ℕ, ◌==◌, ◌&&◌, Bool, true, false, eq-eqb, ap, sym, refl, subst}
use Rattle.std.specs.Prelude.{if◌then◌else◌}
use Rattle.std.proofs.lemmas.Bool.{eqb-true, and_parts, and_from}
use Rattle.mind_base.specs.Page.{PageView}
use Rattle.page_cache.specs.PageCache.{same_page}
use Rattle.page_cache.proofs.Callers.{same_page-true, same_page-refl}
use Rattle.coherence.specs.World.{put, put_page, put_both}

-- a blade and page are those of a change, or are not
pub data AtBoth (k : ℕ) (page : PageView) (n : ℕ) (other : PageView) : Type 0 where
  Here : k ≡ n → page ≡ other → AtBoth k page n other
  Away : (n == k && same_page other page) ≡ false → AtBoth k page n other

pub at_both : (k : ℕ) (page : PageView) (n : ℕ) (other : PageView) → AtBoth k page n other
at_both k page n other = by (n == k && same_page other page) refl where
  by : (b : Bool) → (n == k && same_page other page) ≡ b → AtBoth k page n other
  by true e = let parts = and_parts _ _ e in Here (sym (eqb-true n k parts.0)) (sym (same_page-true other page parts.1))
  by false e = Away e

pub put_both-here : {X : Type 0} (k : ℕ) (page : PageView) (x : X) (f : ℕ → PageView → X) → put_both k page x f k page ≡ x
put_both-here k page x f = ap (λ b. if b then x else f k page) (and_from _ _ (eq-eqb k k refl) (same_page-refl page))

pub put_both-away : {X : Type 0} (k : ℕ) (page : PageView) (x : X) (f : ℕ → PageView → X) (n : ℕ) (other : PageView) → (n == k && same_page other page) ≡ false → put_both k page x f n other ≡ f n other
put_both-away k page x f n other e = ap (λ b. if b then x else f n other) e

pub put-here : {X : Type 0} (k : ℕ) (x : X) (f : ℕ → X) → put k x f k ≡ x
put-here k x f = ap (λ b. if b then x else f k) (eq-eqb k k refl)

-- what is true of the new value at its number, and of the old values at all others, is true everywhere
pub put-cases : {X : Type 0} (P : ℕ → X → Type 0) (k : ℕ) (x : X) (f : ℕ → X)
    → P k x → ((n : ℕ) → (n == k) ≡ false → P n (f n)) → (n : ℕ) → P n (put k x f n)
put-cases {X} P k x f here away n = by (n == k) refl where
  by : (b : Bool) → (n == k) ≡ b → P n (if b then x else f n)
  by true e = subst (λ m. P m x) (sym (eqb-true n k e)) here
  by false e = away n e

-- what is true at a number, and at all others, is true everywhere
pub at_number : (P : ℕ → Type 0) (k : ℕ) → P k → ((n : ℕ) → (n == k) ≡ false → P n) → (n : ℕ) → P n
at_number P k here away n = by (n == k) refl where
  by : (b : Bool) → (n == k) ≡ b → P n
  by true e = subst P (sym (eqb-true n k e)) here
  by false e = away n e

pub put_both-other : {X : Type 0} (k : ℕ) (page : PageView) (x : X) (f : ℕ → PageView → X) (n : ℕ) (other : PageView) → (n == k) ≡ false → put_both k page x f n other ≡ f n other
put_both-other k page x f n other e = ap (λ b. if b && same_page other page then x else f n other) e

pub put-other : {X : Type 0} (k : ℕ) (x : X) (f : ℕ → X) (n : ℕ) → (n == k) ≡ false → put k x f n ≡ f n
put-other k x f n e = ap (λ b. if b then x else f n) e

pub put_page-here : {X : Type 0} (page : PageView) (x : X) (f : PageView → X) → put_page page x f page ≡ x
put_page-here page x f = ap (λ b. if b then x else f page) (same_page-refl page)

pub put_page-away : {X : Type 0} (page : PageView) (x : X) (f : PageView → X) (other : PageView) → same_page other page ≡ false → put_page page x f other ≡ f other
put_page-away page x f other e = ap (λ b. if b then x else f other) e

-- what is true of the new value at its number and page, and of the old values at all others, is true everywhere
pub both-cases : {X : Type 0} (P : ℕ → PageView → X → Type 0) (k : ℕ) (page : PageView) (x : X) (f : ℕ → PageView → X)
    → P k page x → ((n : ℕ) (other : PageView) → (n == k && same_page other page) ≡ false → P n other (f n other))
    → (n : ℕ) (other : PageView) → P n other (put_both k page x f n other)
both-cases {X} P k page x f here away n other = by (n == k && same_page other page) refl where
  by : (b : Bool) → (n == k && same_page other page) ≡ b → P n other (if b then x else f n other)
  by true e =
      let parts = and_parts _ _ e in
      subst (λ m. P m other x) (sym (eqb-true n k parts.0)) (subst (λ q. P k q x) (sym (same_page-true other page parts.1)) here)
  by false e = away n other e
