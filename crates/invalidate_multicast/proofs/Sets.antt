-- Sets of blades as numbers.
use Rattle.std.proofs.Common.{◌≡◌, ◌≢◌, ℕ, ◌+◌, ◌-◌, ◌*◌, ◌/◌, ◌%◌, ◌^◌, ◌<◌, ◌≤◌, Bool, true, false, cond, ◌==◌, inl, inr, ap, sym, subst, ◌∙◌, zero, suc, arith}
use Rattle.std.specs.Int.{bit_at}
use Rattle.std.proofs.lemmas.Bool.{cases_Bool, cases_lt, eqb-true, false≢true}
use Rattle.std.proofs.lemmas.Nat.{pow_pos}
use Rattle.std.proofs.lemmas.Grind.{pow_more}
use Rattle.std.proofs.lemmas.Nat.Bits.{bit_at_above, bit_at-lt, bit_at_lowest, bit_at-suc, bit_at-pow_other}
use Rattle.invalidate_multicast.specs.Blades.{has_blade, with_blade, without_blade}

power-suc : (n : ℕ) → 2 ^ suc n ≡ 2 * 2 ^ n
power-suc n = let e : suc n ≡ n + 1 = omega arith in ap (λ k. 2 ^ k) e ∙ pow_more 2 n ∙ omega arith

-- a bit that is not set can be put in below the bound
bit-fits : (n x b : ℕ) → x < 2 ^ n → b < n → bit_at x b ≡ 0 → x + 2 ^ b < 2 ^ n
bit-fits zero x b lt h e = absurd (omega arith)
bit-fits (suc n) x zero lt h e =
    let low : x % 2 ≡ 0 = sym (bit_at_lowest x) ∙ e in
    omega (arith, power-suc n)
bit-fits (suc n) x (suc b) lt h e =
    let small : x / 2 < 2 ^ n = omega (arith, power-suc n) in
    let half : x / 2 + 2 ^ b < 2 ^ n = bit-fits n (x / 2) b small (omega arith) (sym (bit_at-suc x b) ∙ e) in
    omega (arith, half, power-suc n, power-suc b)

-- a bit is 0 or 1
bit-off : (x b : ℕ) → has_blade x b ≡ false → bit_at x b ≡ 0
bit-off x b f = elim (cases_lt (bit_at x b) 1) [
  | inl lt ↦ omega arith
  | inr le ↦
      let one : bit_at x b ≡ 1 = omega (arith, bit_at-lt x b) in
      let on : has_blade x b ≡ true = ap (λ v. v == 1) one in
      absurd (false≢true (sym f ∙ on))
]

pub with-fits : (n x b : ℕ) → x < 2 ^ n → b < n → has_blade x b ≡ false → x + 2 ^ b < 2 ^ n
with-fits n x b lt h f = bit-fits n x b lt h (bit-off x b f)

pub with_blade-fits : (n x b : ℕ) → x < 2 ^ n → b < n → with_blade x b < 2 ^ n
with_blade-fits n x b lt h =
    let chosen = λ (v : Bool). cond v x (x + 2 ^ b) < 2 ^ n in
    elim (cases_Bool (has_blade x b)) [
      | inl t ↦ subst chosen (sym t) lt
      | inr f ↦ subst chosen (sym f) (with-fits n x b lt h f)
    ]

pub with_blade-some : (x b : ℕ) → x ≢ 0 → with_blade x b ≢ 0
with_blade-some x b ne =
    let chosen = λ (v : Bool). cond v x (x + 2 ^ b) ≢ 0 in
    elim (cases_Bool (has_blade x b)) [
      | inl t ↦ subst chosen (sym t) ne
      | inr f ↦ let some : x + 2 ^ b ≢ 0 = omega arith in subst chosen (sym f) some
    ]

-- one blade alone
pub power-some : (b : ℕ) → 2 ^ b ≢ 0
power-some b = omega (arith, pow_pos b)

pub power-fits : (n b : ℕ) → b < n → 2 ^ b < 2 ^ n
power-fits n b h =
    let zero-off : bit_at 0 b ≡ 0 = bit_at_above 0 0 b (omega arith) (omega arith) in
    let e : 0 + 2 ^ b ≡ 2 ^ b = omega arith in
    subst (λ k. k < 2 ^ n) e (bit-fits n 0 b (pow_pos n) h zero-off)

-- a blade that a set has is among those that the set can name
pub has_blade-below : (n x b : ℕ) → x < 2 ^ n → has_blade x b ≡ true → b < n
has_blade-below n x b lt t = elim (cases_lt b n) [
  | inl small ↦ small
  | inr big ↦
      let one : bit_at x b ≡ 1 = eqb-true (bit_at x b) 1 t in
      let none : bit_at x b ≡ 0 = bit_at_above x n b lt big in
      absurd (omega arith)
]

-- a set without one blade is no greater
pub without-le : (x b : ℕ) → without_blade x b ≤ x
without-le x b =
    let chosen = λ (v : Bool). cond v (x - 2 ^ b) x ≤ x in
    elim (cases_Bool (has_blade x b)) [
      | inl t ↦ let le : x - 2 ^ b ≤ x = omega arith in subst chosen (sym t) le
      | inr f ↦ let le : x ≤ x = omega arith in subst chosen (sym f) le
    ]

-- another blade alone is left
pub without-other_power : (owner b : ℕ) → owner ≢ b → without_blade (2 ^ owner) b ≢ 0
without-other_power owner b ne =
    let apart : b ≢ owner = λ e. ne (sym e) in
    let off : has_blade (2 ^ owner) b ≡ false = ap (λ v. v == 1) (bit_at-pow_other owner b apart) in
    let chosen = λ (v : Bool). cond v (2 ^ owner - 2 ^ b) (2 ^ owner) ≢ 0 in
    subst chosen (sym off) (power-some owner)
