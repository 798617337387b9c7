-- Aligned blocks that have a page in common: the smaller one is inside the larger one.
use Rattle.std.proofs.Common.{◌≡◌, ℕ, ◌+◌, ◌-◌, ◌*◌, ◌/◌, ◌<◌, ◌≤◌, ◌%◌, ◌^◌, true, inl, inr, sym, ap, ◌∙◌, arith}
use Rattle.std.proofs.Math.Nat.{add-mod_right, div-add-mod, mul-le-mul_left, zero-mod}
use Rattle.std.proofs.Math.Pow.{mod-mod-pow}
use Rattle.std.proofs.lemmas.Bool.{cases_lt}
use Rattle.std.proofs.lemmas.Bool.Decides.{nat_tests}
use Rattle.mind_base.specs.Page.{PageView}
use Rattle.mind_base.specs.Range.{RangeView, IsRange, InRange}
use Rattle.range_translate.specs.Block.{block_lies_inside}

step-up : (p x : ℕ) → p * (x + 1) ≡ p * x + p
step-up p x = grind arith

-- from a multiple to a greater one there is at least one step
next-multiple : (p a b : ℕ) → a % p ≡ 0 → b % p ≡ 0 → a < b → a + p ≤ b
next-multiple p a b x y lt =
    let i : p * (a / p) + a % p ≡ a = div-add-mod a p in
    let j : p * (b / p) + b % p ≡ b = div-add-mod b p in
    elim (cases_lt (a / p) (b / p)) [
      | inl more ↦
          let step : p * (a / p + 1) ≤ p * (b / p) = mul-le-mul_left p (omega (arith, more)) in
          omega (arith, x, y, i, j, step, step-up p (a / p))
      | inr le ↦
          let none : p * (b / p) ≤ p * (a / p) = mul-le-mul_left p le in
          absurd (omega (arith, x, y, i, j, none, lt))
    ]

-- a multiple of a power of two is one of each smaller power
of_smaller : (n k j : ℕ) → j ≤ k → n % 2 ^ k ≡ 0 → n % 2 ^ j ≡ 0
of_smaller n k j le e =
    let size : k - j + j ≡ k = omega (arith, le) in
    sym (mod-mod-pow n (k - j) j) ∙ ap (λ m. n % 2 ^ m % 2 ^ j) size ∙ ap (λ r. r % 2 ^ j) e ∙ zero-mod (2 ^ j)

lies : (k j a b n : ℕ) → j ≤ k → a % 2 ^ j ≡ 0 → b % 2 ^ k ≡ 0 → a ≤ n → n < a + 2 ^ j → b ≤ n → n < b + 2 ^ k → (b ≤ a) × (a + 2 ^ j ≤ b + 2 ^ k)
lies k j a b n le x y from below b_from b_below = (
  elim (cases_lt a b) [
    | inl lt ↦ let apart = next-multiple (2 ^ j) a b x (of_smaller b k j le y) lt in absurd (omega (arith, apart, below, b_from))
    | inr reached ↦ reached
  ],
  next-multiple (2 ^ j) a (b + 2 ^ k) x (of_smaller (b + 2 ^ k) k j le (add-mod_right b (2 ^ k) ∙ y)) (omega (arith, from, b_below)),
)

abbrev pub IsBlock : RangeView → Type 0
IsBlock r = IsRange r.domain r.base r.log

pub inside-by_size : (a b : RangeView) (page : PageView) → IsBlock a → IsBlock b → InRange a page → InRange b page → a.log ≤ b.log → block_lies_inside a b ≡ true
inside-by_size a b page ia ib ha hb le =
    let e = lies b.log a.log a.base b.base page.number le ia.3 ib.3 ha.from ha.below hb.from hb.below in
    let low = e.0 in
    let high = e.1 in
    let da = ha.domain in
    let db = hb.domain in
    grind (arith, nat_tests)
