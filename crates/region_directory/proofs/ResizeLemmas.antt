-- What is left of a directory when an entry becomes two, or two become one.
use Rattle.std.proofs.Common.{◌≡◌, ℕ, ◌+◌, ◌-◌, ◌<◌, ◌≤◌, ◌%◌, ◌^◌, Bool, true, false, cond, ◌&&◌, ◌==◌, nat_lt, ◌⊎◌, inl, inr, Option, Some, None, List, [], ◌∷◌, ◌++◌, length, get_or, take, drop, min, refl, ap, sym, subst, ◌∙◌, zero, suc, slice_set, slice_get, eq-eqb, arith}
use Rattle.std.specs.List.{AllByRecursion, insert, remove}
use Rattle.std.specs.Option.{IsSomeAnd, is_none, option_map, option_and_then}
use Rattle.std.proofs.lemmas.Bool.Decides.{nat_tests}
use Rattle.std.proofs.lemmas.Nat.{pow-add}
use Rattle.std.proofs.lemmas.Option.{same_Some, slice_get-get_or, slice_get_read}
use Rattle.mind_base.proofs.Callers.{up_to_nine}
use Rattle.mind_base.specs.Range.{RangeView, IsRange, halves_of}
use Rattle.mind_base.specs.declared.notes.State.{State}
use Rattle.region_directory.specs.Directory.{DirectoryView, IsDirectory}
use Rattle.region_directory.specs.Merge.{are_halves, doubled, merged_state, merged_entry, merged_pair, entry_of_both}
use Rattle.region_directory.specs.Split.{half_entry, split_entry, split_of}
use Rattle.region_directory.specs.declared.entries.Entry.{Entry}
use Rattle.region_directory.proofs.ChangeLemmas.{ranges_of, all-weaker, all-ranges, all-entries}
use Rattle.region_directory.proofs.OrderLemmas.{Precedes, InOrder, pairs-order, order-pairs, precedes-before, precedes-apart, before-precedes}

-- the two lie behind each other from the block's first page on, and have all its pages
pub record IsHalved (whole lower upper : RangeView) : Type 0 where
  pub lower_domain : lower.domain ≡ whole.domain
  pub upper_domain : upper.domain ≡ whole.domain
  pub lower_base : lower.base ≡ whole.base
  pub upper_base : upper.base ≡ whole.base + 2 ^ lower.log
  pub upper_log : upper.log ≡ lower.log
  pub whole_log : whole.log ≡ lower.log + 1

-- a block has twice the pages of its half
twice : (n l : ℕ) → n ≡ l + 1 → 2 ^ n ≡ 2 ^ l + 2 ^ l
twice n l e = ap (λ k. 2 ^ k) e ∙ pow-add 2 l 1 ∙ omega arith

upper-pages : (whole lower upper : RangeView) → IsHalved whole lower upper → 2 ^ upper.log ≡ 2 ^ lower.log
upper-pages whole lower upper h = ap (λ k. 2 ^ k) h.upper_log

-- how they lie to others
halves-order : (whole lower upper : RangeView) → IsHalved whole lower upper → Precedes lower upper
halves-order whole lower upper h = inr (h.lower_domain ∙ sym h.upper_domain, omega (arith, h.lower_base, h.upper_base))

before-lower : (whole lower upper a : RangeView) → IsHalved whole lower upper → Precedes a whole → Precedes a lower
before-lower whole lower upper a h (inl lt) = inl (omega (arith, h.lower_domain))
before-lower whole lower upper a h (inr (d, le)) = inr (d ∙ sym h.lower_domain, omega (arith, h.lower_base))

before-upper : (whole lower upper a : RangeView) → IsHalved whole lower upper → Precedes a whole → Precedes a upper
before-upper whole lower upper a h (inl lt) = inl (omega (arith, h.upper_domain))
before-upper whole lower upper a h (inr (d, le)) = inr (d ∙ sym h.upper_domain, omega (arith, h.upper_base))

lower-before : (whole lower upper b : RangeView) → IsHalved whole lower upper → Precedes whole b → Precedes lower b
lower-before whole lower upper b h (inl lt) = inl (omega (arith, h.lower_domain))
lower-before whole lower upper b h (inr (d, le)) = inr (h.lower_domain ∙ d, omega (arith, h.lower_base, twice whole.log lower.log h.whole_log))

upper-before : (whole lower upper b : RangeView) → IsHalved whole lower upper → Precedes whole b → Precedes upper b
upper-before whole lower upper b h (inl lt) = inl (omega (arith, h.upper_domain))
upper-before whole lower upper b h (inr (d, le)) = inr (h.upper_domain ∙ d, omega (arith, h.upper_base, twice whole.log lower.log h.whole_log, upper-pages whole lower upper h))

before-whole : (whole lower upper a : RangeView) → IsHalved whole lower upper → Precedes a lower → Precedes a whole
before-whole whole lower upper a h (inl lt) = inl (omega (arith, h.lower_domain))
before-whole whole lower upper a h (inr (d, le)) = inr (d ∙ h.lower_domain, omega (arith, h.lower_base))

whole-before : (whole lower upper b : RangeView) → IsHalved whole lower upper → Precedes upper b → Precedes whole b
whole-before whole lower upper b h (inl lt) = inl (omega (arith, h.upper_domain))
whole-before whole lower upper b h (inr (d, le)) = inr (sym h.upper_domain ∙ d, omega (arith, h.upper_base, twice whole.log lower.log h.whole_log, upper-pages whole lower upper h))

-- ---- the lists

abbrev pub two_at : ℕ → Entry → Entry → List Entry → List Entry
two_at i a b es = take i es ++ a ∷ b ∷ drop (suc i) es

abbrev pub one_at : ℕ → Entry → List Entry → List Entry
one_at i a es = take i es ++ a ∷ drop (suc (suc i)) es

pub insert-two : (es : List Entry) (i : ℕ) (a b : Entry) → i < length es → insert (slice_set es i a) (suc i) b ≡ two_at i a b es
insert-two [] i a b lt = absurd (omega arith)
insert-two (e ∷ es) zero a b lt = refl
insert-two (e ∷ es) (suc i) a b lt = ap (λ rest. e ∷ rest) (insert-two es i a b (omega arith))

pub remove-one : (es : List Entry) (i : ℕ) (a : Entry) → suc i < length es → remove (slice_set es i a) (suc i) ≡ one_at i a es
remove-one [] i a lt = absurd (omega arith)
remove-one (e ∷ es) zero a lt = refl
remove-one (e ∷ es) (suc i) a lt = ap (λ rest. e ∷ rest) (remove-one es i a (omega arith))

pub length-two : (es : List Entry) (i : ℕ) (a b : Entry) → i < length es → length (two_at i a b es) ≡ length es + 1
length-two [] i a b lt = absurd (omega arith)
length-two (e ∷ es) zero a b lt = omega arith
length-two (e ∷ es) (suc i) a b lt = omega (arith, length-two es i a b (omega arith))

pub length-one : (es : List Entry) (i : ℕ) (a : Entry) → suc i < length es → length (one_at i a es) + 1 ≡ length es
length-one [] i a lt = absurd (omega arith)
length-one (e ∷ []) zero a lt = absurd (omega arith)
length-one (e ∷ f ∷ es) zero a lt = omega arith
length-one (e ∷ es) (suc i) a lt = omega (arith, length-one es i a (omega arith))

all-two : (P : RangeView → Type 0) (es : List Entry) (i : ℕ) (a b d : Entry) → i < length es → AllByRecursion P (ranges_of es) → (P (get_or es i d).range → P a.range × P b.range) → AllByRecursion P (ranges_of (two_at i a b es))
all-two P [] i a b d lt h k = absurd (omega arith)
all-two P (e ∷ es) zero a b d lt h k = let r = k h.0 in (r.0, (r.1, h.1))
all-two P (e ∷ es) (suc i) a b d lt h k = (h.0, all-two P es i a b d (omega arith) h.1 k)

all-one : (P : RangeView → Type 0) (es : List Entry) (i : ℕ) (a d : Entry) → suc i < length es → AllByRecursion P (ranges_of es) → (P (get_or es i d).range → P (get_or es (suc i) d).range → P a.range) → AllByRecursion P (ranges_of (one_at i a es))
all-one P [] i a d lt h k = absurd (omega arith)
all-one P (e ∷ []) zero a d lt h k = absurd (omega arith)
all-one P (e ∷ f ∷ es) zero a d lt h k = (k h.0 h.1.0, h.1.1)
all-one P (e ∷ es) (suc i) a d lt h k = (h.0, all-one P es i a d (omega arith) h.1 k)

order-two : (es : List Entry) (i : ℕ) (a b d : Entry) → i < length es → InOrder (ranges_of es) → IsHalved (get_or es i d).range a.range b.range → InOrder (ranges_of (two_at i a b es))
order-two [] i a b d lt o h = absurd (omega arith)
order-two (e ∷ es) zero a b d lt o h = (
  (halves-order e.range a.range b.range h, all-weaker (Precedes e.range) (Precedes a.range) (λ r. lower-before e.range a.range b.range r h) (ranges_of es) o.0),
  (all-weaker (Precedes e.range) (Precedes b.range) (λ r. upper-before e.range a.range b.range r h) (ranges_of es) o.0, o.1),
)
order-two (e ∷ es) (suc i) a b d lt o h = (
  all-two (Precedes e.range) es i a b d (omega arith) o.0 (λ p. (before-lower (get_or es i d).range a.range b.range e.range h p, before-upper (get_or es i d).range a.range b.range e.range h p)),
  order-two es i a b d (omega arith) o.1 h,
)

order-one : (es : List Entry) (i : ℕ) (a d : Entry) → suc i < length es → InOrder (ranges_of es) → IsHalved a.range (get_or es i d).range (get_or es (suc i) d).range → InOrder (ranges_of (one_at i a es))
order-one [] i a d lt o h = absurd (omega arith)
order-one (e ∷ []) zero a d lt o h = absurd (omega arith)
order-one (e ∷ f ∷ es) zero a d lt o h = (all-weaker (Precedes f.range) (Precedes a.range) (λ r. whole-before a.range e.range f.range r h) (ranges_of es) o.1.0, o.1.1)
order-one (e ∷ es) (suc i) a d lt o h = (
  all-one (Precedes e.range) es i a d (omega arith) o.0 (λ p _. before-whole a.range (get_or es i d).range (get_or es (suc i) d).range e.range h p),
  order-one es i a d (omega arith) o.1 h,
)

-- ---- directories

abbrev IsBlock : RangeView → Type 0
IsBlock r = IsRange r.domain r.base r.log

order-of : (slots most : ℕ) (es : List Entry) → IsDirectory (record { slots = slots; most = most; entries = es }) → InOrder (ranges_of es)
order-of slots most es h = order-pairs es (λ i j d lo hi. precedes-before (get_or es i d).range (get_or es j d).range (h.ordered i j d lo hi) (h.apart i j d lo hi))

from-order : (slots most : ℕ) (es : List Entry) → slots < 2 ^ 32 → length es ≤ slots → AllByRecursion IsBlock (ranges_of es) → InOrder (ranges_of es) → IsDirectory (record { slots = slots; most = most; entries = es })
from-order slots most es bound fits blocks order =
    let pairs = pairs-order es order in
    record {
      slots_bound = bound;
      fits = fits;
      blocks = all-entries IsBlock es blocks;
      ordered = λ i j d lo hi. before-precedes (get_or es i d).range (get_or es j d).range (pairs i j d lo hi);
      apart = λ i j d lo hi. precedes-apart (get_or es i d).range (get_or es j d).range (pairs i j d lo hi);
    }

-- the halves of a block are blocks
abbrev HalfFits : ℕ → Type 0
HalfFits l = (b : ℕ) → b < 1048576 → l + 1 ≤ 9 → b % 2 ^ (l + 1) ≡ 0 → (b % 2 ^ l ≡ 0) × (b + 2 ^ l < 1048576) × ((b + 2 ^ l) % 2 ^ l ≡ 0)

half-fits : (l : ℕ) → l ≤ 9 → HalfFits l
half-fits = up_to_nine HalfFits (λ b p q e. (omega arith, omega arith, omega arith)) (λ b p q e. (omega arith, omega arith, omega arith)) (λ b p q e. (omega arith, omega arith, omega arith)) (λ b p q e. (omega arith, omega arith, omega arith)) (λ b p q e. (omega arith, omega arith, omega arith)) (λ b p q e. (omega arith, omega arith, omega arith)) (λ b p q e. (omega arith, omega arith, omega arith)) (λ b p q e. (omega arith, omega arith, omega arith)) (λ b p q e. (omega arith, omega arith, omega arith)) (λ b p q e. absurd (omega arith))

halved-blocks : (whole lower upper : RangeView) → IsHalved whole lower upper → IsBlock whole → IsBlock lower × IsBlock upper
halved-blocks whole lower upper h is =
    let start : whole.base % 2 ^ (lower.log + 1) ≡ 0 = subst (λ (l : ℕ). whole.base % 2 ^ l ≡ 0) h.whole_log is.3 in
    let f = half-fits lower.log (omega (arith, h.whole_log, is.2)) whole.base is.1 (omega (arith, h.whole_log, is.2)) start in
    let low : lower.base % 2 ^ lower.log ≡ 0 = ap (λ b. b % 2 ^ lower.log) h.lower_base ∙ f.0 in
    let high : upper.base % 2 ^ upper.log ≡ 0 = ap (λ b. b % 2 ^ upper.log) h.upper_base ∙ ap (λ l. (whole.base + 2 ^ lower.log) % 2 ^ l) h.upper_log ∙ f.2 in (
      (omega (arith, h.lower_domain, is.0), omega (arith, h.lower_base, is.1), omega (arith, h.whole_log, is.2), low),
      (omega (arith, h.upper_domain, is.0), omega (arith, h.upper_base, f.1), omega (arith, h.upper_log, h.whole_log, is.2), high),
    )

pub IsDirectory-two : (slots most i : ℕ) (es fs : List Entry) (a b d : Entry) → length es < slots → i < length es → IsHalved (get_or es i d).range a.range b.range → IsDirectory (record { slots = slots; most = most; entries = es }) → fs ≡ two_at i a b es → IsDirectory (record { slots = slots; most = most; entries = fs })
IsDirectory-two slots most i es fs a b d space lt h is e =
    subst (λ (xs : List Entry). IsDirectory (record { slots = slots; most = most; entries = xs })) (sym e)
    (from-order slots most (two_at i a b es) is.slots_bound (omega (arith, length-two es i a b lt))
    (all-two IsBlock es i a b d lt (all-ranges IsBlock es is.blocks) (halved-blocks (get_or es i d).range a.range b.range h))
    (order-two es i a b d lt (order-of slots most es is) h))

pub IsDirectory-one : (slots most i : ℕ) (es fs : List Entry) (a d : Entry) → suc i < length es → IsBlock a.range → IsHalved a.range (get_or es i d).range (get_or es (suc i) d).range → IsDirectory (record { slots = slots; most = most; entries = es }) → fs ≡ one_at i a es → IsDirectory (record { slots = slots; most = most; entries = fs })
IsDirectory-one slots most i es fs a d lt block h is e =
    subst (λ (xs : List Entry). IsDirectory (record { slots = slots; most = most; entries = xs })) (sym e)
    (from-order slots most (one_at i a es) is.slots_bound (omega (arith, length-one es i a lt, is.fits))
    (all-one IsBlock es i a d lt (all-ranges IsBlock es is.blocks) (λ _ _. block))
    (order-one es i a d lt (order-of slots most es is) h))

-- ---- what the definitions give

by-size : (r : RangeView) (h : RangeView × RangeView) (b : Bool) → (r.log == 0) ≡ b → cond b None (Some (
  record { domain = r.domain; base = r.base; log = r.log - 1 },
  record { domain = r.domain; base = r.base + 2 ^ (r.log - 1); log = r.log - 1 },
)) ≡ Some h → IsHalved r h.0 h.1
by-size r h true t e = absurd (cc)
by-size r h false t e =
    subst (λ (x : RangeView × RangeView). IsHalved r x.0 x.1) (same_Some _ _ e) (record {
      lower_domain = refl;
      upper_domain = refl;
      lower_base = refl;
      upper_base = refl;
      upper_log = refl;
      whole_log = grind (arith, nat_tests);
    })

pub halved-from : (r : RangeView) (h : RangeView × RangeView) → halves_of r ≡ Some h → IsHalved r h.0 h.1
halved-from r h e = by-size r h (r.log == 0) refl e

split-from : (e : Entry) (o : Option (RangeView × RangeView)) (h : Entry × Entry) → halves_of e.range ≡ o → option_map (λ halves. (half_entry e halves.0, half_entry e halves.1)) o ≡ Some h → IsHalved e.range h.0.range h.1.range
split-from e None h is s = absurd (cc)
split-from e (Some halves) h is s = subst (λ (x : Entry × Entry). IsHalved e.range x.0.range x.1.range) (same_Some _ _ s) (halved-from e.range halves is)

pub split-halved : (e : Entry) (h : Entry × Entry) → split_entry e ≡ Some h → IsHalved e.range h.0.range h.1.range
split-halved e h s = split-from e (halves_of e.range) h refl s

halves-test : (d e l m r b c k : ℕ) (x y : Bool) → (d == e && l == m && r == 0 && b == c && nat_lt l k && x && y) ≡ true → (d ≡ e) × (l ≡ m) × (r ≡ 0) × (b ≡ c) × (l < k)
halves-test d e l m r b c k x y t = (grind (arith, nat_tests), grind (arith, nat_tests), grind (arith, nat_tests), grind (arith, nat_tests), grind (arith, nat_tests))

-- a block of both, of which the two are the halves
abbrev pub Joins : RangeView → RangeView → RangeView → Type 0
Joins whole lower upper = IsBlock whole × IsHalved whole lower upper

joins-doubled : (most : ℕ) (a b : RangeView) (x y : Bool) → IsBlock a → (are_halves a b && nat_lt a.log (min most 9) && x && y) ≡ true → Joins (doubled a) a b
joins-doubled most a b x y is t =
    let f = halves-test a.domain b.domain a.log b.log (a.base % 2 ^ (a.log + 1)) b.base (a.base + 2 ^ a.log) (min most 9) x y t in (
      (is.0, is.1, omega (arith, f.4), f.2),
      record {
        lower_domain = refl;
        upper_domain = sym f.0;
        lower_base = refl;
        upper_base = f.3;
        upper_log = sym f.1;
        whole_log = refl;
      },
    )

joins-both : (a b whole : Entry) (o : Option State) → Joins (doubled a.range) a.range b.range → option_map (entry_of_both a b) o ≡ Some whole → Joins whole.range a.range b.range
joins-both a b whole None h e = absurd (cc)
joins-both a b whole (Some state) h e = subst (λ (x : Entry). Joins x.range a.range b.range) (same_Some _ _ e) h

joins-tested : (most : ℕ) (a b whole : Entry) (t : Bool) → IsBlock a.range → (are_halves a.range b.range && nat_lt a.range.log (min most 9) && is_none a.busy && is_none b.busy) ≡ t
    → cond t (option_map (entry_of_both a b) (merged_state a.state b.state)) None ≡ Some whole → Joins whole.range a.range b.range
joins-tested most a b whole true is t e = joins-both a b whole (merged_state a.state b.state) (joins-doubled most a.range b.range (is_none a.busy) (is_none b.busy) is t) e
joins-tested most a b whole false is t e = absurd (cc)

pub merged-joins : (most : ℕ) (a b whole : Entry) → IsBlock a.range → merged_entry most a b ≡ Some whole → Joins whole.range a.range b.range
merged-joins most a b whole is e = joins-tested most a b whole _ is refl e

-- ---- what the code puts in place

pub put-two : (es : List Entry) (i : ℕ) (a b : Entry) → i < length es → insert (slice_set es i a) (i + 1) b ≡ take i es ++ a ∷ b ∷ drop (i + 1) es
put-two es i a b lt =
    let n : i + 1 ≡ suc i = omega arith in
    ap (λ k. insert (slice_set es i a) k b) n ∙ insert-two es i a b lt ∙ ap (λ k. take i es ++ a ∷ b ∷ drop k es) (sym n)

pub put-one : (es : List Entry) (i : ℕ) (a : Entry) → i + 1 < length es → remove (slice_set es i a) (i + 1) ≡ take i es ++ a ∷ drop (i + 2) es
put-one es i a lt =
    let n : i + 1 ≡ suc i = omega arith in
    let m : i + 2 ≡ suc (suc i) = omega arith in
    ap (λ k. remove (slice_set es i a) k) n ∙ remove-one es i a (omega arith) ∙ ap (λ k. take i es ++ a ∷ drop k es) (sym m)

-- ---- when an entry is split

pub split-full : (d : DirectoryView) (i : ℕ) → length d.entries ≡ d.slots → split_of d i ≡ None
split-full d i e = ap (λ b. cond b None (option_and_then split_entry (slice_get d.entries i))) (eq-eqb (length d.entries) d.slots e)

not-full : (n m : ℕ) → (n ≡ m → ⊥) → (n == m) ≡ false
not-full n m h = grind (arith, nat_tests)

pub split-open : (d : DirectoryView) (i : ℕ) (e : Entry) → (length d.entries ≡ d.slots → ⊥) → slice_get d.entries i ≡ Some e → split_of d i ≡ split_entry e
split-open d i e h at =
    ap (λ b. cond b None (option_and_then split_entry (slice_get d.entries i))) (not-full (length d.entries) d.slots h)
    ∙ ap (λ (o : Option Entry). option_and_then split_entry o) at

abbrev parts : RangeView → RangeView × RangeView
parts r = (record { domain = r.domain; base = r.base; log = r.log - 1 }, record { domain = r.domain; base = r.base + 2 ^ (r.log - 1); log = r.log - 1 })

whole-page : (r : RangeView) (b : Bool) → (r.log == 0) ≡ b → cond b None (Some (parts r)) ≡ None → r.log ≡ 0
whole-page r true t e = grind (arith, nat_tests)
whole-page r false t e = absurd (cc)

no-halves : (e : Entry) (o : Option (RangeView × RangeView)) → option_map {U = Entry × Entry} (λ halves. (half_entry e halves.0, half_entry e halves.1)) o ≡ None → o ≡ None
no-halves e None s = refl
no-halves e (Some h) s = absurd (cc)

-- one page alone is not split
pub split-page : (e : Entry) → split_entry e ≡ None → e.range.log ≡ 0
split-page e s = whole-page e.range (e.range.log == 0) refl (no-halves e (halves_of e.range) s)

-- and nothing else that has a free slot
pub split-some : (d : DirectoryView) (i : ℕ) (e : Entry) (h : Entry × Entry) → (length d.entries ≡ d.slots → ⊥) → slice_get d.entries i ≡ Some e → split_entry e ≡ Some h
    → (length d.entries ≡ d.slots) ⊎ IsSomeAnd (slice_get d.entries i) (λ entry. entry.range.log ≡ 0) → ⊥
split-some d i e h space at s (inl full) = space full
split-some d i e h space at s (inr page) =
    let zero : e.range.log ≡ 0 = subst (λ (o : Option Entry). IsSomeAnd o (λ entry. entry.range.log ≡ 0)) at page in
    absurd (omega (arith, (split-halved e h s).whole_log))

-- what is known of an entry that is split: it stands there, a slot is free, and these are its halves
pub record IsSplitThere (d : DirectoryView) (i : ℕ) (e : Entry) (halves : Entry × Entry) : Type 0 where
  pub at : slice_get d.entries i ≡ Some e
  pub free : length d.entries ≡ d.slots → ⊥
  pub halved : split_entry e ≡ Some halves
  pub split : split_of d i ≡ Some halves

pub split-there : (slots most i : ℕ) (es : List Entry) (d : DirectoryView) (e : Entry) (halves : Entry × Entry) → record { slots = slots; most = most; entries = es } ≡ d → i < length d.entries → e ≡ get_or es i e
    → (length es ≡ slots → ⊥) → split_entry e ≡ Some halves → IsSplitThere d i e halves
split-there slots most i es d e halves is lt read free made =
    let view : DirectoryView = record { slots = slots; most = most; entries = es } in
    let within : i < length es = subst (λ (v : DirectoryView). i < length v.entries) (sym is) lt in
    let at : slice_get es i ≡ Some e = slice_get_read es (length es) i e refl within read in
    subst (λ (v : DirectoryView). IsSplitThere v i e halves) is (record { at = at; free = free; halved = made; split = split-open view i e free at ∙ made })

-- ---- when two are merged

pub pair-at : (most : ℕ) (es : List Entry) (i : ℕ) (d w : Entry) → i + 1 < length es → merged_pair most es i ≡ Some w → merged_entry most (get_or es i d) (get_or es (i + 1) d) ≡ Some w
pair-at most es i d w lt e =
    sym (ap (λ (o : Option Entry). option_and_then (λ (lower : Entry). option_and_then (merged_entry most lower) (slice_get es (i + 1))) o) (slice_get-get_or es i d (omega arith))
    ∙ ap (λ (o : Option Entry). option_and_then (merged_entry most (get_or es i d)) o) (slice_get-get_or es (i + 1) d lt)) ∙ e

pub IsDirectory-merge : (slots most i : ℕ) (es fs : List Entry) (w : Entry) → i + 1 < length es → merged_pair most es i ≡ Some w → IsDirectory (record { slots = slots; most = most; entries = es }) → fs ≡ take i es ++ w ∷ drop (i + 2) es → IsDirectory (record { slots = slots; most = most; entries = fs })
IsDirectory-merge slots most i es fs w lt e is f =
    let n : i + 1 ≡ suc i = omega arith in
    let m : i + 2 ≡ suc (suc i) = omega arith in
    let joins : Joins w.range (get_or es i w).range (get_or es (i + 1) w).range = merged-joins most (get_or es i w) (get_or es (i + 1) w) w (is.blocks i w (omega arith)) (pair-at most es i w w lt e) in
    IsDirectory-one slots most i es fs w w (omega arith) joins.0 (subst (λ k. IsHalved w.range (get_or es i w).range (get_or es k w).range) n joins.1) is
    (f ∙ ap (λ k. take i es ++ w ∷ drop k es) m)

hits-both : (a b whole : Entry) (o : Option State) → option_map (entry_of_both a b) o ≡ Some whole → whole.hits ≡ min (a.hits + b.hits) (2 ^ 32 - 1)
hits-both a b whole None e = absurd (cc)
hits-both a b whole (Some state) e = sym (ap (λ (x : Entry). x.hits) (same_Some _ _ e))

hits-tested : (a b whole : Entry) (o : Option State) (t : Bool) → cond t (option_map (entry_of_both a b) o) None ≡ Some whole → whole.hits ≡ min (a.hits + b.hits) (2 ^ 32 - 1)
hits-tested a b whole o true e = hits-both a b whole o e
hits-tested a b whole o false e = absurd (cc)

-- the merged entry has the hits of both
pub merged-hits : (most : ℕ) (a b whole : Entry) → merged_entry most a b ≡ Some whole → whole.hits ≡ min (a.hits + b.hits) (2 ^ 32 - 1)
merged-hits most a b whole e = hits-tested a b whole _ _ e
