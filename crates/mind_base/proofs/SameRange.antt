-- The test whether two blocks are one.
use Rattle.std.proofs.Common.{◌≡◌, refl, sym, ◌∙◌, ap, subst, ℕ, true, ◌&&◌, ◌==◌, arith}
use Rattle.std.specs.Cmp.{IsEquivalence}
use Rattle.std.proofs.lemmas.Bool.{eqb-true, eq-eqb, and_parts, and_from}
use Rattle.std.proofs.lemmas.Bool.Decides.{nat_tests}
use Rattle.mind_base.specs.Range.{RangeView, same_range}

-- blocks of the same domain, first page and size are one
pub range_by_parts : (a b : RangeView) → a.domain ≡ b.domain → a.base ≡ b.base → a.log ≡ b.log → a ≡ b
range_by_parts a b domain base log = λ i. record { domain = domain i; base = base i; log = log i }

pub same_range-refl : (range : RangeView) → same_range range range ≡ true
same_range-refl range = and_from _ _ (and_from _ _ (eq-eqb range.domain range.domain refl) (eq-eqb range.base range.base refl)) (eq-eqb range.log range.log refl)

pub same_range-true : (a b : RangeView) → same_range a b ≡ true → a ≡ b
same_range-true a b e =
    let parts = and_parts _ _ e in
    let first = and_parts _ _ parts.0 in
    range_by_parts a b (eqb-true _ _ first.0) (eqb-true _ _ first.1) (eqb-true _ _ parts.1)

pub same_range-flip : (a b : RangeView) → same_range a b ≡ true → same_range b a ≡ true
same_range-flip a b h = subst (λ x. same_range b x ≡ true) (sym (same_range-true a b h)) (same_range-refl b)

turned : (a b : ℕ) → (a == b) ≡ (b == a)
turned a b = grind (arith, nat_tests)

pub same_range-laws : IsEquivalence same_range
same_range-laws = record {
  refl = same_range-refl;
  symm = λ a b. ap (λ t. t && (a.base == b.base) && (a.log == b.log)) (turned a.domain b.domain)
      ∙ ap (λ t. (b.domain == a.domain) && t && (a.log == b.log)) (turned a.base b.base)
      ∙ ap (λ t. (b.domain == a.domain) && (b.base == a.base) && t) (turned a.log b.log);
  congr = λ a b c h. ap (λ r. same_range r c) (same_range-true a b h);
}
