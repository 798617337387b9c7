-- The order of the entries, and that changes keep it.
use Rattle.std.proofs.Common.{◌≡◌, ℕ, ◌+◌, ◌<◌, ◌≤◌, ◌^◌, true, false, cond, ◌&&◌, ◌||◌, ◌==◌, nat_lt, ◌⊎◌, inl, inr, List, [], ◌∷◌, length, map, get_or, take, drop, refl, ap, sym, subst, ◌∙◌, zero, suc, arith}
use Rattle.std.specs.List.{AllByRecursion, AllPairs, insert, remove}
use Rattle.std.proofs.lemmas.Bool.{cases_Bool, cases_lt}
use Rattle.std.proofs.lemmas.Bool.Decides.{nat_tests}
use Rattle.std.proofs.lemmas.Nat.{pow_pos}
use Rattle.std.proofs.lemmas.List.{get_or-map, length-map}
use Rattle.std.proofs.lemmas.List.Edits.{length-insert, length-remove}
use Rattle.std.proofs.lemmas.List.Elements.{All-append, All-take, All-drop}
use Rattle.std.proofs.lemmas.List.Quantifiers.{all_pairs_remove}
use Rattle.std.proofs.lemmas.List.Sums.{count_by-le-length, sum_by-cons}
use Rattle.mind_base.specs.Range.{RangeView, IsRange}
use Rattle.region_directory.specs.Block.{AreBlocksApart, is_before}
use Rattle.region_directory.specs.Directory.{IsDirectory}
use Rattle.region_directory.specs.Entry.{MeetsNone, entry_place, fresh_entry, changed_at}
use Rattle.region_directory.specs.declared.entries.Entry.{Entry}
use Rattle.region_directory.proofs.ChangeLemmas.{ranges_of, ranges-changed, ranges-map, all-insert, all-weaker, all-ranges, all-entries}

-- the blocks say the block of each entry
range-at : (es fs : List Entry) → ranges_of fs ≡ ranges_of es → (i : ℕ) (d : Entry) → i < length fs → i < length es → (get_or fs i d).range ≡ (get_or es i d).range
range-at es fs e i d lt lu =
    sym (get_or-map (λ x. x.range) fs i d d.range lt) ∙ ap (λ rs. get_or rs i d.range) e ∙ get_or-map (λ x. x.range) es i d d.range lu

length-same : (es fs : List Entry) → ranges_of fs ≡ ranges_of es → length fs ≡ length es
length-same es fs e = sym (length-map fs (λ x. x.range)) ∙ ap length e ∙ length-map es (λ x. x.range)

-- whether a list is that of a directory depends on its blocks alone
pub IsDirectory-same : (slots most : ℕ) (es fs : List Entry) → IsDirectory (record { slots = slots; most = most; entries = es }) → ranges_of fs ≡ ranges_of es → IsDirectory (record { slots = slots; most = most; entries = fs })
IsDirectory-same slots most es fs h e =
    let n : length fs ≡ length es = length-same es fs e in
    record {
      slots_bound = h.slots_bound;
      fits = omega (arith, h.fits);
      blocks = λ i x lt. let q = range-at es fs e i x lt (omega arith) in subst (λ (r : RangeView). IsRange r.domain r.base r.log) (sym q) (h.blocks i x (omega arith));
      ordered = λ i j x lt lu. let q = range-at es fs e i x (omega arith) (omega arith) in let p = range-at es fs e j x lu (omega arith) in
          subst (λ (r : RangeView). is_before r (get_or fs j x).range ≡ true) (sym q) (subst (λ (r : RangeView). is_before (get_or es i x).range r ≡ true) (sym p) (h.ordered i j x lt (omega arith)));
      apart = λ i j x lt lu. let q = range-at es fs e i x (omega arith) (omega arith) in let p = range-at es fs e j x lu (omega arith) in
          subst (λ (r : RangeView). AreBlocksApart r (get_or fs j x).range) (sym q) (subst (λ (r : RangeView). AreBlocksApart (get_or es i x).range r) (sym p) (h.apart i j x lt (omega arith)));
    }

-- a change of one entry that keeps its block keeps the directory
pub IsDirectory-changed : (slots most i : ℕ) (f : Entry → Entry) (es fs : List Entry) → ((e : Entry) → (f e).range ≡ e.range) → IsDirectory (record { slots = slots; most = most; entries = es }) → fs ≡ changed_at i f es → IsDirectory (record { slots = slots; most = most; entries = fs })
IsDirectory-changed slots most i f es fs k h e = IsDirectory-same slots most es fs h (ap ranges_of e ∙ ranges-changed i f es k)

pub IsDirectory-map : (slots most : ℕ) (f : Entry → Entry) (es fs : List Entry) → ((e : Entry) → (f e).range ≡ e.range) → IsDirectory (record { slots = slots; most = most; entries = es }) → fs ≡ map f es → IsDirectory (record { slots = slots; most = most; entries = fs })
IsDirectory-map slots most f es fs k h e = IsDirectory-same slots most es fs h (ap ranges_of e ∙ ranges-map f es k)

-- an entry less keeps it too
pub IsDirectory-remove : (slots most i : ℕ) (es fs : List Entry) → i < length es → IsDirectory (record { slots = slots; most = most; entries = es }) → fs ≡ remove es i → IsDirectory (record { slots = slots; most = most; entries = fs })
IsDirectory-remove slots most i es fs lt h e =
    let n : length (remove es i) + 1 ≡ length es = length-remove es i lt in
    subst (λ (xs : List Entry). IsDirectory (record { slots = slots; most = most; entries = xs })) (sym e) (record {
      slots_bound = h.slots_bound;
      fits = omega (arith, h.fits);
      blocks = All-append (λ entry. IsRange entry.range.domain entry.range.base entry.range.log) (take i es) (drop (suc i) es)
          (All-take (λ entry. IsRange entry.range.domain entry.range.base entry.range.log) i es h.blocks)
          (All-drop (λ entry. IsRange entry.range.domain entry.range.base entry.range.log) (suc i) es h.blocks);
      ordered = all_pairs_remove (λ entry later. is_before entry.range later.range ≡ true) es i lt h.ordered;
      apart = all_pairs_remove (λ entry later. AreBlocksApart entry.range later.range) es i lt h.apart;
    })

-- one block lies wholly before another
abbrev pub Precedes : RangeView → RangeView → Type 0
Precedes a b = (a.domain < b.domain) ⊎ ((a.domain ≡ b.domain) × (a.base + 2 ^ a.log ≤ b.base))

-- what the test of the order says of the numbers
before-true : (d e a b : ℕ) → (nat_lt d e || (d == e && nat_lt a b)) ≡ true → (d < e) ⊎ (e ≤ d) → (d < e) ⊎ ((d ≡ e) × (a < b))
before-true d e a b t (inl lt) = inl lt
before-true d e a b t (inr le) = inr (grind (arith, nat_tests), grind (arith, nat_tests))

before-false : (d e a b : ℕ) → (nat_lt d e || (d == e && nat_lt a b)) ≡ false → (e < d) ⊎ (d ≤ e) → (e < d) ⊎ ((e ≡ d) × (b ≤ a))
before-false d e a b t (inl lt) = inl lt
before-false d e a b t (inr le) = inr (grind (arith, nat_tests), grind (arith, nat_tests))

-- two blocks that share no page, of which one does not start later, lie one before the other
apart-ends : (a b : RangeView) → AreBlocksApart a b → a.domain ≡ b.domain → a.base ≤ b.base → (b.base < a.base + 2 ^ a.log) ⊎ (a.base + 2 ^ a.log ≤ b.base) → a.base + 2 ^ a.log ≤ b.base
apart-ends a b h d le (inl lt) =
    absurd (h (record { domain = b.domain; number = b.base }) (record { domain = sym d; from = le; below = lt }) (record { domain = refl; from = omega arith; below = omega (arith, pow_pos b.log) }))
apart-ends a b h d le (inr done) = done

IsApart-sym : (a b : RangeView) → AreBlocksApart a b → AreBlocksApart b a
IsApart-sym a b h page p q = h page q p

precedes-from : (a b : RangeView) → AreBlocksApart a b → (a.domain < b.domain) ⊎ ((a.domain ≡ b.domain) × (a.base ≤ b.base)) → Precedes a b
precedes-from a b h (inl lt) = inl lt
precedes-from a b h (inr (d, le)) = inr (d, apart-ends a b h d le (cases_lt b.base (a.base + 2 ^ a.log)))

-- a strict start is a start
not-later : (a b : RangeView) → (a.domain < b.domain) ⊎ ((a.domain ≡ b.domain) × (a.base < b.base)) → (a.domain < b.domain) ⊎ ((a.domain ≡ b.domain) × (a.base ≤ b.base))
not-later a b (inl lt) = inl lt
not-later a b (inr (d, lt)) = inr (d, omega arith)

pub precedes-before : (a b : RangeView) → is_before a b ≡ true → AreBlocksApart a b → Precedes a b
precedes-before a b t h = precedes-from a b h (not-later a b (before-true a.domain b.domain a.base b.base t (cases_lt a.domain b.domain)))

pub precedes-other : (a b : RangeView) → is_before a b ≡ false → AreBlocksApart a b → Precedes b a
precedes-other a b t h = precedes-from b a (IsApart-sym a b h) (before-false a.domain b.domain a.base b.base t (cases_lt b.domain a.domain))

pub precedes-apart : (a b : RangeView) → Precedes a b → AreBlocksApart a b
precedes-apart a b (inl lt) page p q = absurd (omega (arith, p.domain, q.domain))
precedes-apart a b (inr (d, le)) page p q = absurd (omega (arith, p.below, q.from))

before-passes : (d e a b : ℕ) → (d < e) ⊎ ((d ≡ e) × (a < b)) → (nat_lt d e || (d == e && nat_lt a b)) ≡ true
before-passes d e a b (inl lt) = grind (arith, nat_tests)
before-passes d e a b (inr (f, lt)) = grind (arith, nat_tests)

before-fails : (d e a b : ℕ) → (d < e) ⊎ ((d ≡ e) × (a < b)) → (nat_lt e d || (e == d && nat_lt b a)) ≡ false
before-fails d e a b (inl lt) = grind (arith, nat_tests)
before-fails d e a b (inr (f, lt)) = grind (arith, nat_tests)

starts : (a b : RangeView) → Precedes a b → (a.domain < b.domain) ⊎ ((a.domain ≡ b.domain) × (a.base < b.base))
starts a b (inl lt) = inl lt
starts a b (inr (d, le)) = inr (d, omega (arith, pow_pos a.log))

pub before-precedes : (a b : RangeView) → Precedes a b → is_before a b ≡ true
before-precedes a b h = before-passes a.domain b.domain a.base b.base (starts a b h)

pub not-before-precedes : (a b : RangeView) → Precedes a b → is_before b a ≡ false
not-before-precedes a b h = before-fails a.domain b.domain a.base b.base (starts a b h)

pub precedes-trans : (a b c : RangeView) → Precedes a b → Precedes b c → Precedes a c
precedes-trans a b c (inl x) (inl y) = inl (omega arith)
precedes-trans a b c (inl x) (inr (d, y)) = inl (omega arith)
precedes-trans a b c (inr (d, x)) (inl y) = inl (omega arith)
precedes-trans a b c (inr (d, x)) (inr (e, y)) = inr (d ∙ e, omega arith)

-- each block lies before all later ones
abbrev pub InOrder : List RangeView → Type 0
InOrder [] = Unit {0}
InOrder (r ∷ rs) = AllByRecursion (Precedes r) rs × InOrder rs

pub pairs-order : (es : List Entry) → InOrder (ranges_of es) → AllPairs (λ entry later. Precedes entry.range later.range) es
pairs-order [] h i j d lt lu = absurd (omega arith)
pairs-order (e ∷ es) h zero zero d lt lu = absurd (omega arith)
pairs-order (e ∷ es) h zero (suc j) d lt lu = all-entries (Precedes e.range) es h.0 j d (omega arith)
pairs-order (e ∷ es) h (suc i) zero d lt lu = absurd (omega arith)
pairs-order (e ∷ es) h (suc i) (suc j) d lt lu = pairs-order es h.1 i j d (omega arith) (omega arith)

pub order-pairs : (es : List Entry) → AllPairs (λ entry later. Precedes entry.range later.range) es → InOrder (ranges_of es)
order-pairs [] h = tt
order-pairs (e ∷ es) h = (all-ranges (Precedes e.range) es (λ k d lt. h 0 (suc k) d (omega arith) (omega arith)), order-pairs es (λ i j d lt lu. h (suc i) (suc j) d (omega arith) (omega arith)))

-- how an entry counts in the place of a block
place-cons : (e : Entry) (es : List Entry) (r : RangeView) → entry_place (e ∷ es) r ≡ cond (is_before e.range r) 1 0 + entry_place es r
place-cons e es r = sum_by-cons (λ entry. cond (is_before entry.range r) 1 0) e es

place-behind : (e : Entry) (es : List Entry) (r : RangeView) → is_before e.range r ≡ true → entry_place (e ∷ es) r ≡ suc (entry_place es r)
place-behind e es r t = place-cons e es r ∙ ap (λ b. cond b 1 0 + entry_place es r) t ∙ omega arith

place-none : (es : List Entry) (r : RangeView) → AllByRecursion (λ s. is_before s r ≡ false) (ranges_of es) → entry_place es r ≡ 0
place-none [] r h = refl
place-none (e ∷ es) r h = place-cons e es r ∙ ap (λ b. cond b 1 0 + entry_place es r) h.0 ∙ omega (arith, place-none es r h.1)

-- a block that no entry meets goes in at its place
pub InOrder-insert : (es : List Entry) (r : RangeView) → InOrder (ranges_of es) → AllByRecursion (λ s. AreBlocksApart s r) (ranges_of es) → InOrder (ranges_of (insert es (entry_place es r) (fresh_entry r)))
InOrder-insert [] r h free = (tt, tt)
InOrder-insert (e ∷ es) r h free =
    let at : ℕ → Type 0 = λ n. InOrder (ranges_of (insert (e ∷ es) n (fresh_entry r))) in
    elim (cases_Bool (is_before e.range r)) as (λ _. at (entry_place (e ∷ es) r)) [
      | inl t ↦ subst at (sym (place-behind e es r t))
          (all-insert (Precedes e.range) es (entry_place es r) (fresh_entry r) h.0 (precedes-before e.range r t free.0), InOrder-insert es r h.1 free.1)
      | inr t ↦
          let first : Precedes r e.range = precedes-other e.range r t free.0 in
          let rest : AllByRecursion (Precedes r) (ranges_of es) = all-weaker (Precedes e.range) (Precedes r) (λ s. precedes-trans r e.range s first) (ranges_of es) h.0 in
          let later : AllByRecursion (λ s. is_before s r ≡ false) (ranges_of (e ∷ es)) =
          (t, all-weaker (Precedes r) (λ s. is_before s r ≡ false) (λ s. not-before-precedes r s) (ranges_of es) rest) in
          subst at (sym (place-none (e ∷ es) r later)) ((first, rest), h)
    ]

pub IsDirectory-insert : (slots most : ℕ) (es fs : List Entry) (r : RangeView) → length es < slots → IsRange r.domain r.base r.log → MeetsNone es r → IsDirectory (record { slots = slots; most = most; entries = es }) → fs ≡ insert es (entry_place es r) (fresh_entry r) → IsDirectory (record { slots = slots; most = most; entries = fs })
IsDirectory-insert slots most es fs r lt b free h e =
    let block : RangeView → Type 0 = λ s. IsRange s.domain s.base s.log in
    let order = InOrder-insert es r (order-pairs es (λ i j d lo hi. precedes-before (get_or es i d).range (get_or es j d).range (h.ordered i j d lo hi) (h.apart i j d lo hi))) (all-ranges (λ s. AreBlocksApart s r) es free) in
    let pairs = pairs-order (insert es (entry_place es r) (fresh_entry r)) order in
    let n : length (insert es (entry_place es r) (fresh_entry r)) ≡ length es + 1 = length-insert es (entry_place es r) (fresh_entry r) (count_by-le-length (λ entry. is_before entry.range r) es) in
    subst (λ (xs : List Entry). IsDirectory (record { slots = slots; most = most; entries = xs })) (sym e) (record {
      slots_bound = h.slots_bound;
      fits = omega arith;
      blocks = all-entries block (insert es (entry_place es r) (fresh_entry r)) (all-insert block es (entry_place es r) (fresh_entry r) (all-ranges block es h.blocks) b);
      ordered = λ i j d lo hi. before-precedes (get_or (insert es (entry_place es r) (fresh_entry r)) i d).range (get_or (insert es (entry_place es r) (fresh_entry r)) j d).range (pairs i j d lo hi);
      apart = λ i j d lo hi. precedes-apart (get_or (insert es (entry_place es r) (fresh_entry r)) i d).range (get_or (insert es (entry_place es r) (fresh_entry r)) j d).range (pairs i j d lo hi);
    })
