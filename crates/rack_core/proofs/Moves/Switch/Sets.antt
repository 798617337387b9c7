-- Sets of blades as states and transitions have them, and the calls to the blades of a set.
use Rattle.std.proofs.Common.{◌≡◌, refl, sym, ◌∙◌, ap, subst, ℕ, ◌+◌, ◌-◌, ◌*◌, ◌/◌, ◌%◌, ◌^◌, ◌<◌, ◌≤◌, Bool, true, false, ◌==◌, ◌⊎◌, inl, inr, List, [], ◌∷◌, map, filter, zero, suc, arith}
use Rattle.std.specs.Prelude.{◌≢◌, if◌then◌else◌}
use Rattle.std.specs.Int.{bit_at}
use Rattle.std.specs.List.{range_with_len}
use Rattle.std.proofs.lemmas.Bool.{eqb-true, eq-eqb, cases_lt, false≢true}
use Rattle.std.proofs.lemmas.Bool.Decides.{nat_tests}
use Rattle.std.proofs.lemmas.Nat.{pow_pos, shr-shr, shr_split}
use Rattle.std.proofs.lemmas.Grind.{pow_more}
use Rattle.std.proofs.lemmas.Nat.Bits.{bit_at_above, bit_at_cat_low, bit_at_cat_high}
use Rattle.mind_base.proofs.Callers.{up_to_nine}
use Rattle.mind_base.specs.declared.links.LinkKind.TheVariants.{Down, To}
use Rattle.wire_msg.specs.declared.msgs.Msg.{Msg}
use Rattle.invalidate_multicast.specs.Blades.{has_blade, with_blade, cast_to, casts_of}
use Rattle.invalidate_multicast.specs.declared.casts.Cast.{Cast}
use Rattle.invalidate_multicast.proofs.Callers.{has-blade_above}
use Rattle.mind_base.specs.declared.links.LinkName.{LinkName}
use Rattle.switch_core.specs.Switch.{to_blade}
use Rattle.rack_core.specs.Seen.{sent_on}
use Rattle.rack_core.specs.SwitchMoves.{SendsNoneUp}

-- the number's higher and lower bits, where it lacks one
record Lacks (w b : ℕ) : Type 0 where
  all : w ≡ w / 2 ^ (b + 1) * 2 ^ (b + 1) + w % 2 ^ b
  more : w + 2 ^ b ≡ w / 2 ^ (b + 1) * 2 ^ (b + 1) + (1 * 2 ^ b + w % 2 ^ b)
  top : 1 * 2 ^ b + w % 2 ^ b < 2 ^ (b + 1)
  low : w % 2 ^ b < 2 ^ b
  under : w % 2 ^ b < 2 ^ (b + 1)

even-times : (q p r : ℕ) → 2 * q * p + r ≡ q * (p * 2) + r
even-times q p r = grind arith

lacks : (w b : ℕ) → w / 2 ^ b % 2 ≡ 0 → Lacks w b
lacks w b e =
    let even : w / 2 ^ b ≡ 2 * (w / 2 ^ b / 2) = omega arith in
    let half : w / 2 ^ b / 2 ≡ w / 2 ^ (b + 1) = shr-shr w b 1 in
    let power : 2 ^ (b + 1) ≡ 2 ^ b * 2 = pow_more 2 b in
    let low : w % 2 ^ b < 2 ^ b = omega (arith, pow_pos b) in
    let whole : w ≡ 2 * (w / 2 ^ b / 2) * 2 ^ b + w % 2 ^ b = sym (shr_split w b) ∙ ap (λ s. s * 2 ^ b + w % 2 ^ b) even in
    let all : w ≡ w / 2 ^ (b + 1) * 2 ^ (b + 1) + w % 2 ^ b =
    whole ∙ even-times (w / 2 ^ b / 2) (2 ^ b) (w % 2 ^ b) ∙ ap (λ q. q * (2 ^ b * 2) + w % 2 ^ b) half ∙ ap (λ p. w / 2 ^ (b + 1) * p + w % 2 ^ b) (sym power) in
    record { all = all; more = omega arith; top = omega arith; low = low; under = omega arith }

bit-zero : (w b : ℕ) → has_blade w b ≡ false → w / 2 ^ b % 2 ≡ 0
bit-zero w b e = by (w / 2 ^ b % 2) (bound (w / 2 ^ b)) e where
  bound : (n : ℕ) → n % 2 < 2
  bound n = omega arith

  by : (n : ℕ) → n < 2 → (n == 1) ≡ false → n ≡ 0
  by zero lt f = refl
  by (suc zero) lt f = absurd (grind (arith, nat_tests))
  by (suc (suc n)) lt f = absurd (omega arith)

-- the set with one blade more: it has the blade, and others as before
added-here : (w b : ℕ) → has_blade w b ≡ false → has_blade (w + 2 ^ b) b ≡ true
added-here w b e =
    let s = lacks w b (bit-zero w b e) in
    eq-eqb _ _ (ap (λ x. bit_at x b) s.more ∙ bit_at_cat_low (w / 2 ^ (b + 1)) (b + 1) (1 * 2 ^ b + w % 2 ^ b) b (omega arith)
    ∙ bit_at_cat_high 1 b (w % 2 ^ b) b s.low (omega arith) ∙ one-first (b - b) (omega arith)) where
      one-first : (n : ℕ) → n ≡ 0 → bit_at 1 n ≡ 1
      one-first zero e = refl
      one-first (suc n) e = absurd (omega arith)

added-other : (w b i : ℕ) → has_blade w b ≡ false → (i < b) ⊎ (b < i) → has_blade (w + 2 ^ b) i ≡ has_blade w i
added-other w b i e (inl lt) =
    let s = lacks w b (bit-zero w b e) in
    ap (λ x. x == 1) (ap (λ x. bit_at x i) s.more ∙ bit_at_cat_low (w / 2 ^ (b + 1)) (b + 1) (1 * 2 ^ b + w % 2 ^ b) i (omega arith) ∙ bit_at_cat_low 1 b (w % 2 ^ b) i lt
    ∙ sym (ap (λ x. bit_at x i) s.all ∙ bit_at_cat_low (w / 2 ^ (b + 1)) (b + 1) (w % 2 ^ b) i (omega arith)))
added-other w b i e (inr lt) =
    let s = lacks w b (bit-zero w b e) in
    ap (λ x. x == 1) (ap (λ x. bit_at x i) s.more ∙ bit_at_cat_high (w / 2 ^ (b + 1)) (b + 1) (1 * 2 ^ b + w % 2 ^ b) i s.top (omega arith)
    ∙ sym (ap (λ x. bit_at x i) s.all ∙ bit_at_cat_high (w / 2 ^ (b + 1)) (b + 1) (w % 2 ^ b) i s.under (omega arith)))

pub order : (i b : ℕ) → (i == b) ≡ false → (i < b) ⊎ (b < i)
order i b e = elim (cases_lt i b) [ inl lt ↦ inl lt | inr le ↦ inr (grind (arith, nat_tests)) ]

-- ---- the set of one blade

pub empty-has : (i : ℕ) → has_blade 0 i ≡ false
empty-has i = ap (λ x. x == 1) (bit_at_above 0 0 i (omega arith) (omega arith))

pub one-here : (b : ℕ) → has_blade (2 ^ b) b ≡ true
one-here b = subst (λ n. has_blade n b ≡ true) (let e : 0 + 2 ^ b ≡ 2 ^ b = omega arith in e) (added-here 0 b (empty-has b))

pub one-other : (b i : ℕ) → (i == b) ≡ false → has_blade (2 ^ b) i ≡ false
one-other b i e =
    subst (λ n. has_blade n i ≡ false) (let z : 0 + 2 ^ b ≡ 2 ^ b = omega arith in z) (added-other 0 b i (empty-has b) (order i b e) ∙ empty-has i)

pub one-only : (b i : ℕ) → has_blade (2 ^ b) i ≡ true → i ≡ b
one-only b i h = by (i == b) refl where
  by : (t : Bool) → (i == b) ≡ t → i ≡ b
  by true t = eqb-true i b t
  by false t = absurd (false≢true (sym (one-other b i t) ∙ h))

-- ---- one blade more

pub with-here : (w b : ℕ) → has_blade (with_blade w b) b ≡ true
with-here w b = by (has_blade w b) refl where
  by : (t : Bool) → has_blade w b ≡ t → has_blade (if t then w else w + 2 ^ b) b ≡ true
  by true e = e
  by false e = added-here w b e

pub with-others : (w b i : ℕ) → has_blade w i ≡ true → has_blade (with_blade w b) i ≡ true
with-others w b i h = by (has_blade w b) refl (i == b) refl where
  by : (t : Bool) → has_blade w b ≡ t → (s : Bool) → (i == b) ≡ s → has_blade (if t then w else w + 2 ^ b) i ≡ true
  by true e s f = h
  by false e true f = absurd (false≢true (sym e ∙ subst (λ n. has_blade w n ≡ true) (eqb-true i b f) h))
  by false e false f = added-other w b i e (order i b f) ∙ h

abbrev Room : ℕ → ℕ → Type 0
Room w n = n < 8 → w < 2 ^ 8 → w / 2 ^ n % 2 ≡ 0 → w + 2 ^ n < 2 ^ 8

room : (w n : ℕ) → n ≤ 9 → Room w n
room w = up_to_nine (Room w) (λ s l e. omega arith) (λ s l e. omega arith) (λ s l e. omega arith) (λ s l e. omega arith) (λ s l e. omega arith) (λ s l e. omega arith) (λ s l e. omega arith) (λ s l e. omega arith) (λ s l e. absurd (omega arith)) (λ s l e. absurd (omega arith))

pub with-fits : (w b : ℕ) → w < 2 ^ 8 → b < 8 → with_blade w b < 2 ^ 8
with-fits w b lt small = by (has_blade w b) refl where
  by : (t : Bool) → has_blade w b ≡ t → (if t then w else w + 2 ^ b) < 2 ^ 8
  by true e = lt
  by false e = room w b (omega (arith, small)) small lt (bit-zero w b e)

pub one-fits : (b : ℕ) → b < 8 → (2 ^ b ≢ 0) × (2 ^ b < 2 ^ 8)
one-fits b lt = (λ e. absurd (omega (arith, pow_pos b)), small b (omega arith) lt) where
  small : (n : ℕ) → n ≤ 9 → n < 8 → 2 ^ n < 2 ^ 8
  small = up_to_nine (λ n. n < 8 → 2 ^ n < 2 ^ 8) (λ l. omega arith) (λ l. omega arith) (λ l. omega arith) (λ l. omega arith) (λ l. omega arith) (λ l. omega arith) (λ l. omega arith) (λ l. omega arith) (λ l. absurd (omega arith)) (λ l. absurd (omega arith))

-- ---- a call to each blade of a set

abbrev calls : (ℕ → Bool) → Msg → ℕ → ℕ → List (LinkName × Msg)
calls has m a n = map (λ cast. to_blade cast.blade m) (map cast_to (filter has (range_with_len a n)))

abbrev calls_if : Bool → ℕ → (ℕ → Bool) → Msg → ℕ → ℕ → List (LinkName × Msg)
calls_if t a has m b n = map (λ cast. to_blade cast.blade m) (map cast_to (if t then a ∷ filter has (range_with_len b n) else filter has (range_with_len b n)))

-- the calls to the blades from a number on are to none before it
calls-later : (has : ℕ → Bool) (m : Msg) (a n c : ℕ) → c < a → sent_on Down c (calls has m a n) ≡ []
calls-later has m a zero c lt = refl
calls-later has m a (suc n) c lt = by (has a) (calls-later has m (a + 1) n c (omega arith)) where
  by : (t : Bool) → sent_on Down c (calls has m (a + 1) n) ≡ [] → sent_on Down c (calls_if t a has m (a + 1) n) ≡ []
  by true rest = ap (λ t. if t then m ∷ sent_on Down c (calls has m (a + 1) n) else sent_on Down c (calls has m (a + 1) n)) (let e : (c == a) ≡ false = grind (arith, nat_tests) in e) ∙ rest
  by false rest = rest

calls-among : (has : ℕ → Bool) (m : Msg) (a n c : ℕ) → a ≤ c → c < a + n → sent_on Down c (calls has m a n) ≡ (if has c then m ∷ [] else [])
calls-among has m a zero c le lt = absurd (omega arith)
calls-among has m a (suc n) c le lt = at (c == a) refl (λ more. calls-among has m (a + 1) n c more (omega arith)) where
  here : c ≡ a → (t : Bool) → has c ≡ t → sent_on Down c (calls_if t a has m (a + 1) n) ≡ (if t then m ∷ [] else [])
  here same true h =
      ap (λ t. if t then m ∷ sent_on Down c (calls has m (a + 1) n) else sent_on Down c (calls has m (a + 1) n)) (eq-eqb c a same)
      ∙ ap (λ rest. m ∷ rest) (calls-later has m (a + 1) n c (omega arith))
  here same false h = calls-later has m (a + 1) n c (omega arith)

  there : (c == a) ≡ false → (t : Bool) → sent_on Down c (calls has m (a + 1) n) ≡ (if has c then m ∷ [] else []) → sent_on Down c (calls_if t a has m (a + 1) n) ≡ (if has c then m ∷ [] else [])
  there away true rest = ap (λ t. if t then m ∷ sent_on Down c (calls has m (a + 1) n) else sent_on Down c (calls has m (a + 1) n)) away ∙ rest
  there away false rest = rest

  at : (t : Bool) → (c == a) ≡ t → (a + 1 ≤ c → sent_on Down c (calls has m (a + 1) n) ≡ (if has c then m ∷ [] else [])) → sent_on Down c (calls has m a (suc n)) ≡ (if has c then m ∷ [] else [])
  at true e rest = let same = eqb-true c a e in subst (λ x. sent_on Down c (calls_if (has x) a has m (a + 1) n) ≡ (if has c then m ∷ [] else [])) same (here same (has c) refl)
  at false e rest = there e (has a) (rest (grind (arith, nat_tests)))

-- of the calls to the blades of a set each blade of it gets one, and no other gets any
pub calls-down : (set : ℕ) (m : Msg) (c : ℕ) → set < 256 → sent_on Down c (map (λ cast. to_blade cast.blade m) (casts_of set)) ≡ (if has_blade set c then m ∷ [] else [])
unfolding casts_of
calls-down set m c lt = elim (cases_lt c 8) [
  | inl small ↦ calls-among (has_blade set) m 0 8 c (omega arith) (omega arith)
  | inr big ↦ absent (has-blade_above set c lt big)
] where
  absent : has_blade set c ≡ false → sent_on Down c (calls (has_blade set) m 0 8) ≡ (if has_blade set c then m ∷ [] else [])
  absent none = outside 8 (range_with_len 0 8) ∙ ap (λ t. if t then m ∷ [] else []) (sym none) where
    outside : ℕ → (xs : List ℕ) → sent_on Down c (map (λ cast. to_blade cast.blade m) (map cast_to (filter (has_blade set) xs))) ≡ []
    outside n [] = refl
    outside n (x ∷ xs) = by (has_blade set x) refl (c == x) refl (outside n xs) where
      by : (t : Bool) → has_blade set x ≡ t → (s : Bool) → (c == x) ≡ s
          → sent_on Down c (map (λ cast. to_blade cast.blade m) (map cast_to (filter (has_blade set) xs))) ≡ []
          → sent_on Down c (map (λ cast. to_blade cast.blade m) (map cast_to (if t then x ∷ filter (has_blade set) xs else filter (has_blade set) xs))) ≡ []
      by true h true e rest = absurd (false≢true (sym none ∙ subst (λ y. has_blade set y ≡ true) (sym (eqb-true c x e)) h))
      by true h false e rest = ap (λ t. if t then m ∷ sent_on Down c (map (λ cast. to_blade cast.blade m) (map cast_to (filter (has_blade set) xs))) else sent_on Down c (map (λ cast. to_blade cast.blade m) (map cast_to (filter (has_blade set) xs)))) e ∙ rest
      by false h s e rest = rest

pub calls-to : (casts : List Cast) (m : Msg) (memory : ℕ) → sent_on To memory (map (λ cast. to_blade cast.blade m) casts) ≡ []
calls-to [] m memory = refl
calls-to (cast ∷ casts) m memory = calls-to casts m memory

pub calls-quiet : (casts : List Cast) (m : Msg) → SendsNoneUp (map (λ cast. to_blade cast.blade m) casts)
calls-quiet [] m n = (refl, refl)
calls-quiet (cast ∷ casts) m n = calls-quiet casts m n
