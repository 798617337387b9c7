-- A look-up by halves: what one look at an entry says of all others, and how few looks there are.
use Rattle.std.proofs.Common.{◌≡◌, ℕ, ◌+◌, ◌-◌, ◌*◌, ◌<◌, ◌≤◌, ◌^◌, Bool, true, false, cond, not, ◌⊎◌, inl, inr, Option, Some, None, List, length, get_or, refl, ap, sym, subst, ◌∙◌, suc, arith}
use Rattle.std.specs.List.{position, position_or_len}
use Rattle.std.proofs.lemmas.Bool.{cases_Bool, cases_lt, false≢true}
use Rattle.std.proofs.lemmas.Bool.Decides.{nat_tests}
use Rattle.std.proofs.lemmas.Nat.{pow_pos, pow-add, pow_below, mul-le}
use Rattle.std.proofs.lemmas.List.Quantifiers.{position-Some}
use Rattle.std.proofs.lemmas.List.Sums.{prefix_len_passes}
use Rattle.mind_base.specs.Page.{PageView}
use Rattle.mind_base.specs.Range.{RangeView, InRange, in_range}
use Rattle.region_directory.specs.Directory.{DirectoryView, IsDirectory}
use Rattle.region_directory.specs.Side.{where_lies, precedes_block}
use Rattle.region_directory.specs.declared.entries.Entry.{Entry}
use Rattle.region_directory.specs.declared.sides.Where.{Where}
use Rattle.region_directory.specs.declared.sides.Where.TheVariants.{Before, Inside, After}
use Rattle.region_directory.proofs.BlockLemmas.{has-from_test}
use Rattle.region_directory.proofs.OrderLemmas.{Precedes, precedes-before}
use Rattle.region_directory.proofs.SearchLemmas.{blank, not-true, position-None}

-- each answer says what the tests say
side-tests : (t u : Bool) (side : Where) → cond t Inside (cond u Before After) ≡ side → record { before : side ≡ Before → (t ≡ false) × (u ≡ true); inside : side ≡ Inside → t ≡ true; after : side ≡ After → (t ≡ false) × (u ≡ false) }
side-tests true u side e = record { before = λ b. absurd (grind arith); inside = λ b. refl; after = λ b. absurd (grind arith) }
side-tests false true side e = record { before = λ b. (refl, refl); inside = λ b. absurd (grind arith); after = λ b. absurd (grind arith) }
side-tests false false side e = record { before = λ b. absurd (grind arith); inside = λ b. absurd (grind arith); after = λ b. (refl, refl) }

pub lies-before : (range : RangeView) (page : PageView) → where_lies range page ≡ Before → (page.domain < range.domain) ⊎ ((page.domain ≡ range.domain) × (page.number < range.base))
lies-before range page e =
    let u : precedes_block page range ≡ true = ((side-tests (in_range range page) (precedes_block page range) (where_lies range page) refl).before e).1 in
    elim (cases_lt page.domain range.domain) [
      | inl lt ↦ inl lt
      | inr le ↦ inr (grind (arith, nat_tests), grind (arith, nat_tests))
    ]

pub lies-inside : (range : RangeView) (page : PageView) → where_lies range page ≡ Inside → in_range range page ≡ true
lies-inside range page e = (side-tests (in_range range page) (precedes_block page range) (where_lies range page) refl).inside e

pub lies-after : (range : RangeView) (page : PageView) → where_lies range page ≡ After → (range.domain < page.domain) ⊎ ((range.domain ≡ page.domain) × (range.base + 2 ^ range.log ≤ page.number))
lies-after range page e =
    let f = (side-tests (in_range range page) (precedes_block page range) (where_lies range page) refl).after e in
    let t : in_range range page ≡ false = f.0 in
    let u : precedes_block page range ≡ false = f.1 in
    elim (cases_lt range.domain page.domain) [
      | inl lt ↦ inl lt
      | inr le ↦ inr (grind (arith, nat_tests), grind (arith, nat_tests))
    ]

-- a block that does not have the page fails the test
fails : (range : RangeView) (page : PageView) → (InRange range page → ⊥) → in_range range page ≡ false
fails range page none =
    elim (cases_Bool (in_range range page)) [
      | inl t ↦ absurd (none (has-from_test range page t))
      | inr f ↦ f
    ]

none-behind : (a b : RangeView) (page : PageView) → (page.domain < a.domain) ⊎ ((page.domain ≡ a.domain) × (page.number < a.base)) → Precedes a b → InRange b page → ⊥
none-behind a b page (inl lt) (inl up) h = omega (arith, h.domain)
none-behind a b page (inl lt) (inr (d, le)) h = omega (arith, h.domain)
none-behind a b page (inr (e, lt)) (inl up) h = omega (arith, h.domain)
none-behind a b page (inr (e, lt)) (inr (d, le)) h = omega (arith, h.from)

none-ahead : (a b : RangeView) (page : PageView) → (b.domain < page.domain) ⊎ ((b.domain ≡ page.domain) × (b.base + 2 ^ b.log ≤ page.number)) → Precedes a b → InRange a page → ⊥
none-ahead a b page (inl lt) (inl up) h = omega (arith, h.domain)
none-ahead a b page (inl lt) (inr (d, le)) h = omega (arith, h.domain)
none-ahead a b page (inr (e, lt)) (inl up) h = omega (arith, h.domain)
none-ahead a b page (inr (e, lt)) (inr (d, le)) h = omega (arith, h.below, pow_pos b.log)

-- the tests of the entries from one place up to another fail
abbrev pub FailBetween : List Entry → PageView → ℕ → ℕ → Type 0
FailBetween entries page from below = (k : ℕ) → from ≤ k → k < below → in_range (get_or entries k blank).range page ≡ false

module _ (d : DirectoryView) (page : PageView) (h : IsDirectory d) (i : ℕ) (within : i < length d.entries) where
  stand : (k l : ℕ) → k < l → l < length d.entries → Precedes (get_or d.entries k blank).range (get_or d.entries l blank).range
  stand k l lt in_list =
      precedes-before (get_or d.entries k blank).range (get_or d.entries l blank).range (h.ordered k l blank lt in_list) (h.apart k l blank lt in_list)

  -- a page before the block of one entry is in none of those from there on
  pub before-fails : where_lies (get_or d.entries i blank).range page ≡ Before → FailBetween d.entries page i (length d.entries)
  before-fails e k le lt =
      let before = lies-before (get_or d.entries i blank).range page e in
      elim (cases_lt i k) [
        | inl later ↦ fails (get_or d.entries k blank).range page (none-behind (get_or d.entries i blank).range (get_or d.entries k blank).range page before (stand i k later lt))
        | inr there ↦ let same : k ≡ i = omega arith in
            ((side-tests (in_range (get_or d.entries k blank).range page) (precedes_block page (get_or d.entries k blank).range) (where_lies (get_or d.entries k blank).range page) refl).before (ap (λ n. where_lies (get_or d.entries n blank).range page) same ∙ e)).0
      ]

  -- and one after it in none up to there
  pub after-fails : where_lies (get_or d.entries i blank).range page ≡ After → FailBetween d.entries page 0 (suc i)
  after-fails e k le lt =
      let after = lies-after (get_or d.entries i blank).range page e in
      elim (cases_lt k i) [
        | inl earlier ↦ fails (get_or d.entries k blank).range page (none-ahead (get_or d.entries k blank).range (get_or d.entries i blank).range page after (stand k i earlier within))
        | inr there ↦ let same : k ≡ i = omega arith in
            ((side-tests (in_range (get_or d.entries k blank).range page) (precedes_block page (get_or d.entries k blank).range) (where_lies (get_or d.entries k blank).range page) refl).after (ap (λ n. where_lies (get_or d.entries n blank).range page) same ∙ e)).0
      ]

-- the first index at which a test passes
first-passes : (p : Entry → Bool) (es : List Entry) (r : Option ℕ) → position p es ≡ r → (i : ℕ) → i < length es → p (get_or es i blank) ≡ true → ((k : ℕ) → k < i → p (get_or es k blank) ≡ false) → r ≡ Some i
first-passes p es None e i lt t none =
    let past : i < position_or_len p es = omega (arith, position-None p es e) in
    absurd (not-true _ (prefix_len_passes (λ x. not (p x)) es i blank past) t)
first-passes p es (Some j) e i lt t none =
    let f = position-Some p es j blank e in
    elim (cases_lt i j) [
      | inl less ↦ absurd (false≢true (sym (f.2 i less) ∙ t))
      | inr le ↦ elim (cases_lt j i) [
        | inl more ↦ absurd (false≢true (sym (none j more) ∙ f.1))
        | inr ge ↦ ap Some (omega arith)
      ]
    ]

-- the entry that has the page is the first that passes, since no other one has it
pub found-inside : (d : DirectoryView) (page : PageView) → IsDirectory d → (i : ℕ) → i < length d.entries → in_range (get_or d.entries i blank).range page ≡ true → position (λ entry. in_range entry.range page) d.entries ≡ Some i
found-inside d page h i lt t =
    first-passes (λ entry. in_range entry.range page) d.entries (position (λ entry. in_range entry.range page) d.entries) refl i lt t (λ k below.
    fails (get_or d.entries k blank).range page (λ has. h.apart k i blank below lt page has (has-from_test (get_or d.entries i blank).range page t)))

nowhere : (p : Entry → Bool) (es : List Entry) (r : Option ℕ) → position p es ≡ r → ((k : ℕ) → k < length es → p (get_or es k blank) ≡ false) → r ≡ None
nowhere p es None e none = refl
nowhere p es (Some j) e none =
    let f = position-Some p es j blank e in
    absurd (false≢true (sym (none j f.0) ∙ f.1))

pub found-nowhere : (es : List Entry) (page : PageView) → FailBetween es page 0 (length es) → position (λ entry. in_range entry.range page) es ≡ None
found-nowhere es page none =
    nowhere (λ entry. in_range entry.range page) es (position (λ entry. in_range entry.range page) es) refl (λ k lt. none k (omega arith) lt)

-- one step more, and at most half of the entries left
twice : (old now : ℕ) → old ≤ now → 2 ^ (now + 1 - old) ≡ 2 ^ (now - old) * 2
twice old now le =
    let e : now + 1 - old ≡ now - old + 1 = omega arith in
    ap (λ n. 2 ^ n) e ∙ pow-add 2 (now - old) 1

half-left : (p n left half : ℕ) → p * left ≤ n → half * 2 ≤ left → (p * 2) * half ≤ n
half-left p n left half le small =
    let fits : p * (half * 2) ≤ p * left = mul-le p (half * 2) p left (omega arith) small in
    grind (arith, fits)

one-more : (p n left : ℕ) → p * left ≤ n → 0 < left → p * 2 ≤ 2 * n + 1
one-more p n left le some =
    let fits : p * 1 ≤ p * left = mul-le p 1 p left (omega arith) (omega arith) in
    omega arith

pub narrowed : (old now next n left half : ℕ) → old ≤ now → next ≡ now + 1 → 2 ^ (now - old) * left ≤ n → 0 < left → half * 2 ≤ left → (2 ^ (next - old) * half ≤ n) × (2 ^ (next - old) ≤ 2 * n + 1)
narrowed old now next n left half le step fits some small =
    let e : 2 ^ (next - old) ≡ 2 ^ (now - old) * 2 = ap (λ k. 2 ^ (k - old)) step ∙ twice old now le in
    (subst (λ q. q * half ≤ n) (sym e) (half-left (2 ^ (now - old)) n left half fits small), subst (λ q. q ≤ 2 * n + 1) (sym e) (one-more (2 ^ (now - old)) n left fits some))

-- so few that a 64-bit counter holds them
pub few-steps : (s n : ℕ) → 2 ^ s ≤ 2 * n + 1 → n < 2 ^ 32 → s < 64
few-steps s n le small =
    elim (cases_lt 63 s) [
      | inl lt ↦ absurd (omega (arith, pow_below 63 s lt))
      | inr done ↦ omega arith
    ]
