-- How many blades a set has, with one blade more or less.
use Rattle.std.proofs.Common.{◌≡◌, refl, sym, ◌∙◌, ap, subst, ℕ, ◌+◌, ◌-◌, ◌^◌, ◌<◌, ◌≤◌, Bool, true, false, ◌==◌, List, [], ◌∷◌, length, map, filter, zero, suc, arith}
use Rattle.std.specs.Prelude.{if◌then◌else◌}
use Rattle.std.specs.List.{range_with_len}
use Rattle.std.proofs.lemmas.Bool.{eqb-true, eq-eqb, false≢true}
use Rattle.std.proofs.lemmas.Bool.Decides.{nat_tests}
use Rattle.invalidate_multicast.specs.Blades.{has_blade, with_blade, without_blade, cast_to, casts_of}
use Rattle.invalidate_multicast.proofs.Callers.{without-gone, without-other}
use Rattle.rack_core.proofs.Callers.{one-here, one-other, with-here}

-- how many blades a set has
abbrev pub size : ℕ → ℕ
size blades = length (casts_of blades)

-- how many of some numbers pass a test
abbrev passing : (ℕ → Bool) → List ℕ → ℕ
passing has xs = length (map cast_to (filter has xs))

abbrev one_if : Bool → ℕ
one_if b = if b then 1 else 0

passing-first : (has : ℕ → Bool) (x : ℕ) (xs : List ℕ) → passing has (x ∷ xs) ≡ one_if (has x) + passing has xs
passing-first has x xs = by (has x) where
  by : (b : Bool) → length (map cast_to (if b then x ∷ filter has xs else filter has xs)) ≡ one_if b + passing has xs
  by true = omega arith
  by false = omega arith

-- one test for each number that passes, of two
passing-both : (p q r : ℕ → Bool) → ((x : ℕ) → one_if (p x) ≡ one_if (q x) + one_if (r x)) → (xs : List ℕ) → passing p xs ≡ passing q xs + passing r xs
passing-both p q r each [] = refl
passing-both p q r each (x ∷ xs) =
    plain _ _ _ _ _ _ _ _ _ (passing-first p x xs) (passing-first q x xs) (passing-first r x xs) (each x) (passing-both p q r each xs) where
      plain : (a b c d e f s t u : ℕ) → s ≡ a + d → t ≡ b + e → u ≡ c + f → a ≡ b + c → d ≡ e + f → s ≡ t + u
      plain a b c d e f s t u g h k l m = omega arith

-- ---- a set with one blade

later-none : (b a n : ℕ) → b < a → passing (has_blade (2 ^ b)) (range_with_len a n) ≡ 0
later-none b a zero lt = refl
later-none b a (suc n) lt =
    passing-first (has_blade (2 ^ b)) a (range_with_len (a + 1) n)
    ∙ ap (λ t. one_if t + passing (has_blade (2 ^ b)) (range_with_len (a + 1) n)) (one-other b a (let e : (a == b) ≡ false = grind (arith, nat_tests) in e))
    ∙ ap (λ n. 0 + n) (later-none b (a + 1) n (omega arith))

one-among : (b a n : ℕ) → passing (has_blade (2 ^ b)) (range_with_len a n) ≤ 1
one-among b a zero = omega arith
one-among b a (suc n) = by (a == b) refl (one-among b (a + 1) n) where
  rest : List ℕ
  rest = range_with_len (a + 1) n

  here : (t : Bool) (s u : ℕ) → s ≡ one_if t + u → u ≡ 0 → s ≤ 1
  here true s u e none = omega arith
  here false s u e none = omega arith

  later : (s u : ℕ) → s ≡ 0 + u → u ≤ 1 → s ≤ 1
  later s u e few = omega arith

  by : (t : Bool) → (a == b) ≡ t → passing (has_blade (2 ^ b)) rest ≤ 1 → passing (has_blade (2 ^ b)) (a ∷ rest) ≤ 1
  by true e few =
      here (has_blade (2 ^ b) a) _ _ (passing-first (has_blade (2 ^ b)) a rest) (let same = eqb-true a b e in later-none b (a + 1) n (omega arith))
  by false e few =
      later _ _ (passing-first (has_blade (2 ^ b)) a rest ∙ ap (λ t. one_if t + passing (has_blade (2 ^ b)) rest) (one-other b a e)) few

pub one-size : (blade : ℕ) → size (2 ^ blade) ≤ 1
unfolding casts_of
one-size blade = one-among blade 0 8

pub none-size : size 0 ≡ 0
unfolding casts_of
none-size = refl

-- ---- one blade more, and one less

-- a set that has a blade has as many as without it, and the blade
pub without-size : (blades blade : ℕ) → has_blade blades blade ≡ true → size blades ≡ size (without_blade blades blade) + size (2 ^ blade)
unfolding casts_of
without-size blades blade has = passing-both (has_blade blades) (has_blade (without_blade blades blade)) (has_blade (2 ^ blade)) (λ x. by x (x == blade) refl) (range_with_len 0 8) where
  tests : (p q r a b c : Bool) → p ≡ a → q ≡ b → r ≡ c → one_if a ≡ one_if b + one_if c → one_if p ≡ one_if q + one_if r
  tests p q r a b c e f g h = ap one_if e ∙ h ∙ sym (ap (λ t. one_if t + one_if c) f) ∙ sym (ap (λ t. one_if q + one_if t) g)

  other : (x : ℕ) → (x == blade) ≡ false → x ≡ blade → ⊥
  other x e same = false≢true (sym e ∙ eq-eqb x blade same)

  by : (x : ℕ) → (t : Bool) → (x == blade) ≡ t → one_if (has_blade blades x) ≡ one_if (has_blade (without_blade blades blade) x) + one_if (has_blade (2 ^ blade) x)
  by x true e =
      let same = eqb-true x blade e in
      subst (λ y. one_if (has_blade blades y) ≡ one_if (has_blade (without_blade blades blade) y) + one_if (has_blade (2 ^ blade) y)) (sym same)
      (tests _ _ _ true false true has (without-gone blades blade) (one-here blade) refl)
  by x false e =
      tests _ _ _ (has_blade blades x) (has_blade blades x) false refl (without-other blades blade x (other x e)) (one-other blade x e) (omega arith)

pub less-size : (blades blade : ℕ) → size (without_blade blades blade) ≤ size blades
less-size blades blade = by (has_blade blades blade) refl where
  by : (t : Bool) → has_blade blades blade ≡ t → size (without_blade blades blade) ≤ size blades
  by true e = subst (λ n. size (without_blade blades blade) ≤ n) (sym (without-size blades blade e)) (omega arith)
  by false e = subst (λ t. size (if t then blades - 2 ^ blade else blades) ≤ size blades) (sym e) (omega arith)

pub with-size : (blades blade : ℕ) → size (with_blade blades blade) ≤ size blades + 1
with-size blades blade = by (has_blade blades blade) refl where
  back : has_blade blades blade ≡ false → without_blade (blades + 2 ^ blade) blade ≡ blades
  back e =
      let here : has_blade (blades + 2 ^ blade) blade ≡ true = subst (λ t. has_blade (if t then blades else blades + 2 ^ blade) blade ≡ true) e (with-here blades blade) in
      ap (λ t. if t then blades + 2 ^ blade - 2 ^ blade else blades + 2 ^ blade) here ∙ omega arith

  plain : (s t u : ℕ) → s ≡ t + u → u ≤ 1 → s ≤ t + 1
  plain s t u e le = omega arith

  by : (t : Bool) → has_blade blades blade ≡ t → size (with_blade blades blade) ≤ size blades + 1
  by true e = subst (λ t. size (if t then blades else blades + 2 ^ blade) ≤ size blades + 1) (sym e) (omega arith)
  by false e =
      let here : has_blade (blades + 2 ^ blade) blade ≡ true = subst (λ t. has_blade (if t then blades else blades + 2 ^ blade) blade ≡ true) e (with-here blades blade) in
      subst (λ t. size (if t then blades else blades + 2 ^ blade) ≤ size blades + 1) (sym e)
      (plain _ _ _ (without-size (blades + 2 ^ blade) blade here ∙ ap (λ n. size n + size (2 ^ blade)) (back e)) (one-size blade))
