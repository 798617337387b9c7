-- The bits of a window: when it moves, takes a number in, or joins another.
use Rattle.std.proofs.Common.{◌≡◌, ℕ, zero, suc, ◌+◌, ◌-◌, ◌*◌, ◌/◌, ◌%◌, ◌^◌, ◌<◌, ◌≤◌, max, Bool, true, false, ◌&&◌, ◌||◌, ◌==◌, refl, sym, ap, ◌∙◌, subst, arith, inl, inr, ◌⊎◌, w64, lt-ltb, eq-eqb, eqb-true}
use Rattle.std.specs.Prelude.{nat_lt}
use Rattle.std.specs.Int.{bit_at, trailing_ones}
use Rattle.std.specs.Int.RustNames.{bit_or}
use Rattle.std.proofs.lemmas.Bool.{cases_lt, cases_eq, ne_eqb, le-ltb, false≢true}
use Rattle.std.proofs.lemmas.Nat.{shr-shr}
use Rattle.std.proofs.lemmas.Nat.Bits.{bit_at-lt, bit_at-zero, bit_at_or, bit_at_above, bit_at_ones, bit_at_set_same, bit_at_set_other, bit_at-trailing_ones}
use Rattle.link_retry.specs.declared.windows.Window.{Window}
use Rattle.link_retry.specs.Window.{has, is_within, Keeps, Passes, Joins}

-- ---- a later number

shifted : (mask d i : ℕ) → bit_at (mask / 2 ^ d) i ≡ bit_at mask (d + i)
shifted mask d i = ap (λ (x : ℕ). x % 2) (shr-shr mask d i)

pub moved : (window : Window) (base : ℕ) → window.base ≤ base → (n : ℕ) → has (record { base = base; mask = window.mask / 2 ^ (base - window.base) }) n ≡ (nat_lt base n && has window n)
moved window base from n = elim (cases_lt base n) [
  | inl lt ↦
      let place : n - window.base - 1 ≡ (base - window.base) + (n - base - 1) = omega arith in
      rw (lt-ltb base n lt, lt-ltb window.base n (omega arith), place) (ap (λ (b : ℕ). b == 1) (shifted window.mask (base - window.base) (n - base - 1)))
  | inr le ↦ rw (le-ltb base n le) refl
]

-- so far that none is left
pub moved-far : (window : Window) (base : ℕ) → window.mask < 2 ^ 64 → window.base + 64 ≤ base → (n : ℕ) → has (record { base = base; mask = 0 }) n ≡ (nat_lt base n && has window n)
moved-far window base small from n = elim (cases_lt base n) [
  | inl lt ↦
      rw (lt-ltb base n lt, lt-ltb window.base n (omega arith))
      (ap (λ (b : ℕ). b == 1) (bit_at-zero (n - base - 1) ∙ sym (bit_at_above window.mask 64 (n - window.base - 1) small (omega arith))))
  | inr le ↦ rw (le-ltb base n le) refl
]

-- ---- two windows

either : (x y : ℕ) → x < 2 → y < 2 → (max x y == 1) ≡ (x == 1 || y == 1)
either zero zero a b = refl
either zero (suc zero) a b = refl
either (suc zero) zero a b = refl
either (suc zero) (suc zero) a b = refl
either (suc (suc x)) y a b = absurd (omega arith)
either x (suc (suc y)) a b = absurd (omega arith)

both : (base a b n : ℕ) → has (record { base = base; mask = bit_or a b }) n ≡ (has (record { base = base; mask = a }) n || has (record { base = base; mask = b }) n)
both base a b n = by (nat_lt base n) where
  i : ℕ
  i = n - base - 1

  by : (before : Bool) → (before && bit_at (bit_or a b) i == 1) ≡ ((before && bit_at a i == 1) || (before && bit_at b i == 1))
  by true = ap (λ (x : ℕ). x == 1) (bit_at_or a b i) ∙ either (bit_at a i) (bit_at b i) (bit_at-lt a i) (bit_at-lt b i)
  by false = refl

once : (p x y : Bool) → ((p && x) || (p && y)) ≡ (p && (x || y))
once true x y = refl
once false x y = refl

pub joins : (old other : Window) (base a b : ℕ) → base ≡ max old.base other.base
    → ((n : ℕ) → has (record { base = base; mask = a }) n ≡ (nat_lt base n && has old n))
    → ((n : ℕ) → has (record { base = base; mask = b }) n ≡ (nat_lt base n && has other n))
    → Joins old other (record { base = base; mask = bit_or a b })
joins old other base a b is mine others = record {
  base = is;
  numbers = λ n.
      both base a b n ∙ (λ i. mine n i || others n i) ∙ once (nat_lt base n) (has old n) (has other n);
}

-- ---- a number is put in

or-false : (x : Bool) → (x || false) ≡ x
or-false true = refl
or-false false = refl

or-true : (x : Bool) → (x || true) ≡ true
or-true true = refl
or-true false = refl

and-false : (x : Bool) → (x && false) ≡ false
and-false true = refl
and-false false = refl

-- what lies not within is left out
pub keeps-none : (window : Window) (number : ℕ) → is_within window number ≡ false → Keeps window number window
keeps-none window number out = record {
  base = refl;
  numbers = λ n. sym (ap (λ (b : Bool). has window n || b) (ap (λ (b : Bool). n == number && b) out ∙ and-false (n == number)) ∙ or-false (has window n));
}

pub within-not : (window : Window) (number : ℕ) → number ≤ window.base → is_within window number ≡ false
within-not window number early = ap (λ (b : Bool). b && nat_lt number (window.base + 65)) (le-ltb window.base number early)

pub within-past : (window : Window) (number : ℕ) → window.base + 64 < number → is_within window number ≡ false
within-past window number late = ap (λ (b : Bool). nat_lt window.base number && b) (le-ltb number (window.base + 65) (omega arith)) ∙ and-false (nat_lt window.base number)

within : (window : Window) (number : ℕ) → window.base < number → number ≤ window.base + 64 → is_within window number ≡ true
within window number late early = rw (lt-ltb window.base number late, lt-ltb number (window.base + 65) (omega arith)) refl

pub keeps-one : (window : Window) (number : ℕ) → window.base < number → number ≤ window.base + 64
    → Keeps window number (record { base = window.base; mask = bit_or window.mask (1 * 2 ^ (number - window.base - 1) % 2 ^ 64) })
keeps-one window number late early = record { base = refl; numbers = numbers } where
  place : ℕ
  place = number - window.base - 1

  mask : ℕ
  mask = bit_or window.mask (1 * 2 ^ place % 2 ^ 64)

  numbers : (n : ℕ) → (nat_lt window.base n && bit_at mask (n - window.base - 1) == 1) ≡ (has window n || (n == number && is_within window number))
  numbers n = elim (cases_eq n number) [
    | inl same ↦
        (ap (λ (m : ℕ). nat_lt window.base m && bit_at mask (m - window.base - 1) == 1) same
        ∙ ap (λ (b : Bool). b && bit_at mask place == 1) (lt-ltb window.base number late)
        ∙ ap (λ (x : ℕ). x == 1) (bit_at_set_same w64 window.mask place (omega arith)))
        ∙ sym (or-true (has window n))
        ∙ sym (ap (λ (b : Bool). has window n || (b && is_within window number)) (eq-eqb n number same) ∙ ap (λ (b : Bool). has window n || b) (within window number late early))
    | inr other ↦
        (elim (cases_lt window.base n) [
          | inl behind ↦ ap (λ (x : ℕ). nat_lt window.base n && x == 1) (bit_at_set_other w64 window.mask place (omega arith) (n - window.base - 1) (λ e. other (omega arith)))
          | inr before ↦ rw (le-ltb window.base n before) refl
        ])
        ∙ sym (or-false (has window n))
        ∙ sym (ap (λ (b : Bool). has window n || (b && is_within window number)) (ne_eqb n number other))
  ]

-- ---- the numbers that follow without a gap

whole : trailing_ones w64 18446744073709551615 ≡ 64
unfolding lib.Count.count_trailing_zeros
whole = refl

run : (mask : ℕ) → mask < 2 ^ 64 → (trailing_ones w64 mask ≤ 64) × (bit_at mask (trailing_ones w64 mask) ≡ 0) × ((i : ℕ) → i < trailing_ones w64 mask → bit_at mask i ≡ 1)
run mask small = elim (cases_lt (mask + 1) (2 ^ 64)) [
  | inl less ↦
      let found = bit_at-trailing_ones w64 mask less in
      (omega (arith, found.0), found.1, found.2)
  | inr full ↦
      let is : mask ≡ 18446744073709551615 = omega arith in
      subst (λ (m : ℕ). (trailing_ones w64 m ≤ 64) × (bit_at m (trailing_ones w64 m) ≡ 0) × ((i : ℕ) → i < trailing_ones w64 m → bit_at m i ≡ 1)) (sym is)
      (omega (arith, whole), ap (bit_at 18446744073709551615) whole ∙ refl, λ i less. bit_at_ones 64 i (omega (arith, less, whole)))
]

-- the number of the last one that follows
pub run-last : (window : Window) → window.mask < 2 ^ 64 → 0 < trailing_ones w64 window.mask → has window (window.base + trailing_ones w64 window.mask) ≡ true
run-last window small some =
    let place : window.base + trailing_ones w64 window.mask - window.base - 1 ≡ trailing_ones w64 window.mask - 1 = omega arith in
    rw (lt-ltb window.base (window.base + trailing_ones w64 window.mask) (omega arith), place, (run window.mask small).2 (trailing_ones w64 window.mask - 1) (omega arith)) refl

pub passes : (window : Window) (base mask : ℕ) → window.mask < 2 ^ 64 → base ≡ window.base + 1 + trailing_ones w64 window.mask
    → ((n : ℕ) → has (record { base = base; mask = mask }) n ≡ (nat_lt base n && has window n)) → Passes window (record { base = base; mask = mask })
passes window base mask small is behind = record { later = omega arith; come = come; gap = gap; numbers = behind } where
  come : (n : ℕ) → window.base < n → n < base → has window n ≡ true
  come n late early = rw (lt-ltb window.base n late, (run window.mask small).2 (n - window.base - 1) (omega arith)) refl

  gap : has window base ≡ false
  gap =
      let place : base - window.base - 1 ≡ trailing_ones w64 window.mask = omega arith in
      rw (lt-ltb window.base base (omega arith), place, (run window.mask small).1) refl

-- a window without a mask has nothing
pub has-none : (base n : ℕ) → has (record { base = base; mask = 0 }) n ≡ false
has-none base n = ap (λ (x : ℕ). nat_lt base n && x == 1) (bit_at-zero (n - base - 1)) ∙ and-false (nat_lt base n)

-- the number that it stands at is never in it
pub has-base : (window : Window) → has window window.base ≡ false
has-base window = ap (λ (b : Bool). b && bit_at window.mask (window.base - window.base - 1) == 1) (le-ltb window.base window.base (omega arith))

-- what is in it is behind its number
pub has-behind : (window : Window) (n : ℕ) → has window n ≡ true → window.base < n
has-behind window n is = elim (cases_lt window.base n) [
  | inl lt ↦ lt
  | inr le ↦ absurd (false≢true (sym (ap (λ (b : Bool). b && bit_at window.mask (n - window.base - 1) == 1) (le-ltb window.base n le)) ∙ is))
]

and-right : (a b : Bool) → (a && b) ≡ true → b ≡ true
and-right true b is = is
and-right false b is = absurd (false≢true is)

-- what it has once it passed some, it had
pub had : (old new : Window) → Passes old new → (n : ℕ) → has new n ≡ true → has old n ≡ true
had old new passed n is = and-right (nat_lt new.base n) (has old n) (sym (passed.numbers n) ∙ is)

or-cases : (a b : Bool) → (a || b) ≡ true → (a ≡ true) ⊎ (b ≡ true)
or-cases true b is = inl refl
or-cases false b is = inr is

and-left : (a b : Bool) → (a && b) ≡ true → a ≡ true
and-left true b is = refl
and-left false b is = absurd (false≢true is)

-- what it has once a number was put in, it had, or it is that one
pub kept-or-had : (old new : Window) (number : ℕ) → Keeps old number new → (n : ℕ) → has new n ≡ true → (has old n ≡ true) ⊎ (n ≡ number)
kept-or-had old new number kept n is = elim (or-cases (has old n) (n == number && is_within old number) (sym (kept.numbers n) ∙ is)) [
  | inl before ↦ inl before
  | inr it ↦ inr (eqb-true n number (and-left (n == number) (is_within old number) it))
]

-- with all that it has sent, no more follow than were sent
pub passes-sent : (old new : Window) (next : ℕ) → Passes old new → ((n : ℕ) → has old n ≡ true → n < next) → old.base < next → new.base ≤ next
passes-sent old new next passed sent some = elim (cases_lt (old.base + 1) new.base) [
  | inl more ↦
      let last : new.base - 1 < next = sent (new.base - 1) (passed.come (new.base - 1) (omega arith) (omega arith)) in
      omega arith
  | inr one ↦ omega arith
]

pub has-not-before : (window : Window) (n : ℕ) → n ≤ window.base → has window n ≡ false
has-not-before window n early = ap (λ (b : Bool). b && bit_at window.mask (n - window.base - 1) == 1) (le-ltb window.base n early)

pub has-not-past : (window : Window) (n : ℕ) → window.mask < 2 ^ 64 → window.base + 64 < n → has window n ≡ false
has-not-past window n small late =
    ap (λ (x : ℕ). nat_lt window.base n && x == 1) (bit_at_above window.mask 64 (n - window.base - 1) small (omega arith)) ∙ and-false (nat_lt window.base n)

pub pass-fits : (window : Window) → window.mask < 2 ^ 64 → window.base < 4294967295 → ((n : ℕ) → has window n ≡ true → n < 4294967295) → window.base + 1 + trailing_ones w64 window.mask < 4294967296
pass-fits window small fits sent = elim (cases_lt 0 (trailing_ones w64 window.mask)) [
  | inl some ↦
      let last : window.base + trailing_ones w64 window.mask < 4294967295 = sent (window.base + trailing_ones w64 window.mask) (run-last window small some) in
      omega arith
  | inr none ↦ omega arith
]
