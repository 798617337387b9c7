-- Sets of blades: one blade less, and the blades in rising order.
use Rattle.std.proofs.Common.{◌≡◌, ℕ, ◌+◌, ◌-◌, ◌*◌, ◌/◌, ◌%◌, ◌^◌, ◌<◌, ◌≤◌, Bool, true, false, cond, ◌==◌, ◌⊎◌, inl, inr, [], ◌∷◌, ◌++◌, map, ap, sym, ◌∙◌, zero, suc, arith}
use Rattle.std.specs.Int.{bit_at}
use Rattle.std.specs.List.{range_with_len, filter}
use Rattle.std.proofs.lemmas.Bool.{cases_Bool, cases_lt, eqb-true}
use Rattle.std.proofs.lemmas.List.{append-nil, map-append}
use Rattle.std.proofs.lemmas.List.Elements.{filter-append}
use Rattle.std.proofs.lemmas.Nat.{pow_pos, shr-shr, shr_split}
use Rattle.std.proofs.lemmas.Grind.{pow_more}
use Rattle.std.proofs.lemmas.Nat.Bits.{bit_at_above, bit_at_cat_low, bit_at_cat_high}
use Rattle.invalidate_multicast.specs.Blades.{has_blade, without_blade, cast_to}

-- the numbers from a on, with one more
range-more : (a n : ℕ) → range_with_len a (suc n) ≡ range_with_len a n ++ (a + n) ∷ []
range-more a zero = ap (λ x. x ∷ []) (omega arith)
range-more a (suc n) =
    ap (λ rest. a ∷ rest) (range-more (a + 1) n) ∙ ap (λ x. a ∷ (range_with_len (a + 1) n ++ x ∷ [])) (omega arith)

-- one more blade is told where it is one of the set
pub casts-more : (blades n : ℕ) → map cast_to (filter (has_blade blades) (range_with_len 0 (n + 1))) ≡ map cast_to (filter (has_blade blades) (range_with_len 0 n)) ++ map cast_to (cond (has_blade blades n) (n ∷ []) [])
casts-more blades n =
    let more : range_with_len 0 (n + 1) ≡ range_with_len 0 n ++ n ∷ [] =
    ap (range_with_len 0) (let e : n + 1 ≡ suc n = omega arith in e) ∙ range-more 0 n ∙ ap (λ x. range_with_len 0 n ++ x ∷ []) (let e : 0 + n ≡ n = omega arith in e) in
    ap (λ xs. map cast_to (filter (has_blade blades) xs)) more ∙ ap (map cast_to) (filter-append (has_blade blades) (range_with_len 0 n) (n ∷ [])) ∙
    map-append cast_to (filter (has_blade blades) (range_with_len 0 n)) (cond (has_blade blades n) (n ∷ []) [])

pub casts-named : (blades n : ℕ) → has_blade blades n ≡ true → map cast_to (filter (has_blade blades) (range_with_len 0 (n + 1))) ≡ map cast_to (filter (has_blade blades) (range_with_len 0 n)) ++ cast_to n ∷ []
casts-named blades n t =
    casts-more blades n ∙ ap (λ b. map cast_to (filter (has_blade blades) (range_with_len 0 n)) ++ map cast_to (cond b (n ∷ []) [])) t

pub casts-other : (blades n : ℕ) → has_blade blades n ≡ false → map cast_to (filter (has_blade blades) (range_with_len 0 (n + 1))) ≡ map cast_to (filter (has_blade blades) (range_with_len 0 n))
casts-other blades n f =
    casts-more blades n ∙ ap (λ b. map cast_to (filter (has_blade blades) (range_with_len 0 n)) ++ map cast_to (cond b (n ∷ []) [])) f ∙ append-nil (map cast_to (filter (has_blade blades) (range_with_len 0 n)))

-- an odd number of powers
odd-times : (q p r : ℕ) → (2 * q + 1) * p + r ≡ q * (p * 2) + (1 * p + r)
odd-times q p r = grind arith

-- a number with bit b is 2 ^ b and what its other bits say
record Splits (w b : ℕ) : Type 0 where
  all : w ≡ w / 2 ^ (b + 1) * 2 ^ (b + 1) + (1 * 2 ^ b + w % 2 ^ b)
  less : w - 2 ^ b ≡ w / 2 ^ (b + 1) * 2 ^ (b + 1) + w % 2 ^ b
  top : 1 * 2 ^ b + w % 2 ^ b < 2 ^ (b + 1)
  low : w % 2 ^ b < 2 ^ b

splits : (w b : ℕ) → w / 2 ^ b % 2 ≡ 1 → Splits w b
splits w b e =
    let odd : w / 2 ^ b ≡ 2 * (w / 2 ^ b / 2) + 1 = omega arith in
    let half : w / 2 ^ b / 2 ≡ w / 2 ^ (b + 1) = shr-shr w b 1 in
    let power : 2 ^ (b + 1) ≡ 2 ^ b * 2 = pow_more 2 b in
    let low : w % 2 ^ b < 2 ^ b = omega (arith, pow_pos b) in
    let whole : w ≡ (2 * (w / 2 ^ b / 2) + 1) * 2 ^ b + w % 2 ^ b = sym (shr_split w b) ∙ ap (λ s. s * 2 ^ b + w % 2 ^ b) odd in
    let all : w ≡ w / 2 ^ (b + 1) * 2 ^ (b + 1) + (1 * 2 ^ b + w % 2 ^ b) =
    whole ∙ odd-times (w / 2 ^ b / 2) (2 ^ b) (w % 2 ^ b) ∙ ap (λ q. q * (2 ^ b * 2) + (1 * 2 ^ b + w % 2 ^ b)) half ∙ ap (λ p. w / 2 ^ (b + 1) * p + (1 * 2 ^ b + w % 2 ^ b)) (sym power) in
    record { all = all; less = omega arith; top = omega arith; low = low }

-- the bit that is taken off is gone
bit-gone : (w b : ℕ) → bit_at w b ≡ 1 → bit_at (w - 2 ^ b) b ≡ 0
bit-gone w b e =
    let s = splits w b e in
    ap (λ x. bit_at x b) s.less ∙ bit_at_cat_low (w / 2 ^ (b + 1)) (b + 1) (w % 2 ^ b) b (omega arith) ∙ bit_at_above (w % 2 ^ b) b b s.low (omega arith)

-- the others stay
bit-other : (w b i : ℕ) → bit_at w b ≡ 1 → (i < b) ⊎ (b < i) → bit_at (w - 2 ^ b) i ≡ bit_at w i
bit-other w b i e (inl lt) =
    let s = splits w b e in
    ap (λ x. bit_at x i) s.less ∙ bit_at_cat_low (w / 2 ^ (b + 1)) (b + 1) (w % 2 ^ b) i (omega arith) ∙
    sym (ap (λ x. bit_at x i) s.all ∙ bit_at_cat_low (w / 2 ^ (b + 1)) (b + 1) (1 * 2 ^ b + w % 2 ^ b) i (omega arith) ∙ bit_at_cat_low 1 b (w % 2 ^ b) i lt)
bit-other w b i e (inr lt) =
    let s = splits w b e in
    ap (λ x. bit_at x i) s.less ∙ bit_at_cat_high (w / 2 ^ (b + 1)) (b + 1) (w % 2 ^ b) i (omega (arith, s.top)) (omega arith) ∙
    sym (ap (λ x. bit_at x i) s.all ∙ bit_at_cat_high (w / 2 ^ (b + 1)) (b + 1) (1 * 2 ^ b + w % 2 ^ b) i s.top (omega arith))

pub has-blade_above : (w b : ℕ) → w < 256 → 8 ≤ b → has_blade w b ≡ false
has-blade_above w b lt big = ap (λ x. x == 1) (bit_at_above w 8 b lt big)

-- what a set without a blade has
pub without-gone : (w b : ℕ) → has_blade (without_blade w b) b ≡ false
without-gone w b =
    let chosen = λ (v : Bool). has_blade (cond v (w - 2 ^ b) w) b in
    elim (cases_Bool (has_blade w b)) [
      | inl t ↦ ap chosen t ∙ ap (λ x. x == 1) (bit-gone w b (eqb-true (bit_at w b) 1 t))
      | inr f ↦ ap chosen f ∙ f
    ]

pub without-other : (w b i : ℕ) → (i ≡ b → ⊥) → has_blade (without_blade w b) i ≡ has_blade w i
without-other w b i ne =
    let chosen = λ (v : Bool). has_blade (cond v (w - 2 ^ b) w) i in
    let apart : (i < b) ⊎ (b < i) = elim (cases_lt i b) [ inl lo ↦ inl lo | inr hi ↦ inr (omega arith) ] in
    elim (cases_Bool (has_blade w b)) [
      | inl t ↦ ap chosen t ∙ ap (λ x. x == 1) (bit-other w b i (eqb-true (bit_at w b) 1 t) apart)
      | inr f ↦ ap chosen f
    ]

-- the code's way to take a blade off
pub without-taken : (w b : ℕ) → has_blade w b ≡ true → w - 2 ^ b ≡ without_blade w b
without-taken w b t = sym (ap (λ v. cond v (w - 2 ^ b) w) t)
