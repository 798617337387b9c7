-- The tests of a run and of a block of pages decide which pages are in it; tests of all numbers below one.
use Rattle.std.proofs.Common.{◌≡◌, ℕ, zero, suc, ◌+◌, ◌<◌, Bool, true, false, ◌&&◌, refl, sym, ap, ◌∙◌, subst, inl, inr, arith}
use Rattle.std.proofs.lemmas.Bool.{and_parts, cases_Bool, cases_lt, false≢true}
use Rattle.std.proofs.lemmas.Bool.Decides.{nat_tests}
use Rattle.mind_base.specs.Page.{PageView}
use Rattle.mind_base.specs.Span.{SpanView, InSpan, in_span}
use Rattle.mind_base.specs.Range.{RangeView, InRange, in_range}
use Rattle.mind_base.specs.Cover.{all_below}

pub in_span-true : (span : SpanView) (page : PageView) → InSpan span page → in_span span page ≡ true
in_span-true span page h = let a = h.domain in let b = h.from in let c = h.below in grind (arith, nat_tests)

pub in_span-has : (span : SpanView) (page : PageView) → in_span span page ≡ true → InSpan span page
in_span-has span page h = record { domain = grind (arith, nat_tests); from = grind (arith, nat_tests); below = grind (arith, nat_tests) }

pub in_range-true : (range : RangeView) (page : PageView) → InRange range page → in_range range page ≡ true
in_range-true range page h = let a = h.domain in let b = h.from in let c = h.below in grind (arith, nat_tests)

pub in_range-has : (range : RangeView) (page : PageView) → in_range range page ≡ true → InRange range page
in_range-has range page h = record { domain = grind (arith, nat_tests); from = grind (arith, nat_tests); below = grind (arith, nat_tests) }

pub all_below-zero : (test : ℕ → Bool) → all_below test 0 ≡ true
unfolding all_below
all_below-zero test = refl

pub all_below-at : (test : ℕ → Bool) (n i : ℕ) → all_below test n ≡ true → i < n → test i ≡ true
unfolding all_below
all_below-at test zero i e l = absurd (omega (arith, l))
all_below-at test (suc n) i e l =
    let both = and_parts (all_below test n) (test n) e in
    elim (cases_lt i n) [
      | inl lt ↦ all_below-at test n i both.0 lt
      | inr le ↦ (let same : n ≡ i = omega (arith, l, le) in subst (λ k. test k ≡ true) same both.1)
    ]

pub all_below-more : (test : ℕ → Bool) (n : ℕ) → all_below test n ≡ true → test n ≡ true → all_below test (n + 1) ≡ true
unfolding all_below
all_below-more test n so_far here =
    let next : all_below test (suc n) ≡ true = ap (λ c. c && test n) so_far ∙ here in
    subst (λ k. all_below test k ≡ true) (let e : suc n ≡ n + 1 = omega arith in e) next

pub all_below-fails : (test : ℕ → Bool) (n i : ℕ) → i < n → test i ≡ false → all_below test n ≡ false
all_below-fails test n i l f = elim (cases_Bool (all_below test n)) [
  | inl t ↦ absurd (false≢true (sym f ∙ all_below-at test n i t l))
  | inr e ↦ e
]
