-- Numbers in two's complement: what they spell, and back.
use Rattle.std.proofs.Common.{◌≡◌, ℕ, ◌-◌, ◌*◌, ◌%◌, ◌<◌, ◌≤◌, ℤ, pos, negsuc, ap, ◌∙◌, arith, inl, inr}
use Rattle.std.specs.Prelude.{◌-ℤ◌, unsigned_abs}
use Rattle.std.proofs.lemmas.Int.{ints}
use Rattle.std.proofs.lemmas.Bool.{cases_lt}
use Rattle.std.proofs.lemmas.Bool.Decides.{nat_tests}
use Rattle.rv32_decode.specs.Fields.{sign_extended, complement}
use Rattle.rv32_decode.specs.Instr.{IsSigned, IsEven}

-- n - m, where that is negative
minus : (n m : ℕ) → n < m → pos n -ℤ pos m ≡ negsuc (m - 1 - n)
minus n m h = omega (arith, ints)

sign_extended-below : (half n : ℕ) → n < half → sign_extended half n ≡ pos n
sign_extended-below half n h = grind (arith, nat_tests)

sign_extended-above : (half n : ℕ) → half ≤ n → n < 2 * half → sign_extended half n ≡ negsuc (2 * half - 1 - n)
sign_extended-above half n low high = grind (arith, nat_tests, minus n (2 * half) high)

pub complement-sign_extended : (half n : ℕ) → n < 2 * half → complement half (sign_extended half n) ≡ n
complement-sign_extended half n h =
    elim (cases_lt n half) [
      | inl below ↦ ap (complement half) (sign_extended-below half n below)
      | inr above ↦ ap (complement half) (sign_extended-above half n above h) ∙ omega arith
    ]

pub sign_extended-complement : (half : ℕ) (z : ℤ) → IsSigned half z → sign_extended half (complement half z) ≡ z
sign_extended-complement half (pos n) h = grind (arith, ints, nat_tests)
sign_extended-complement half (negsuc n) h = grind (arith, ints, nat_tests)

pub complement_below : (half : ℕ) (z : ℤ) → IsSigned half z → complement half z < 2 * half
complement_below half (pos n) h = omega (arith, ints)
complement_below half (negsuc n) h = omega (arith, ints)

pub IsSigned-sign_extended : (half n : ℕ) → n < 2 * half → IsSigned half (sign_extended half n)
IsSigned-sign_extended half n h = (grind (arith, ints, nat_tests), grind (arith, ints, nat_tests))

pub IsEven-sign_extended : (half n : ℕ) → n < 2 * half → n % 2 ≡ 0 → IsEven (sign_extended half n)
IsEven-sign_extended half n h e =
    elim (cases_lt n half) [
      | inl below ↦ ap (λ z. unsigned_abs z % 2) (sign_extended-below half n below) ∙ e
      | inr above ↦ ap (λ z. unsigned_abs z % 2) (sign_extended-above half n above h) ∙ omega arith
    ]

pub complement-even : (half : ℕ) (z : ℤ) → IsSigned half z → IsEven z → complement half z % 2 ≡ 0
complement-even half (pos n) h e = e
complement-even half (negsuc n) h e = omega (arith, ints)
