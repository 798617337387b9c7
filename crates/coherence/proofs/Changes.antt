-- Goals on functions with one value changed, by whether it is asked for at that value's place.
use Rattle.std.proofs.Common.{◌≡◌, ℕ, ◌==◌, Bool, true, false, ◌&&◌, refl, sym, subst, eqb-true}
use Rattle.std.proofs.lemmas.Bool.{and_parts}
use Rattle.mind_base.specs.Page.{PageView}
use Rattle.page_cache.specs.PageCache.{same_page}
use Rattle.page_cache.proofs.Callers.{same_page-true}

-- by the answer of a test
pub by-test : (P : Bool → Type 0) (b : Bool) → (b ≡ true → P true) → (b ≡ false → P false) → P b
by-test P true here away = here refl
by-test P false here away = away refl

-- whether a number is that of a change
pub by-number : (P : ℕ → Bool → Type 0) (n k : ℕ) → P k true → ((n == k) ≡ false → P n false) → P n (n == k)
by-number P n k here away = by-test (P n) (n == k) (λ e. subst (λ x. P x true) (sym (eqb-true n k e)) here) away

-- whether a number and a page are those of a change
pub by-both : (P : ℕ → PageView → Bool → Type 0) (n k : ℕ) (other page : PageView) → P k page true → ((n == k && same_page other page) ≡ false → P n other false) → P n other (n == k && same_page other page)
by-both P n k other page here away = by-test (P n other) (n == k && same_page other page) (λ e. let parts = and_parts _ _ e in
    subst (λ x. P x other true) (sym (eqb-true n k parts.0)) (subst (λ x. P k x true) (sym (same_page-true other page parts.1)) here)) away
