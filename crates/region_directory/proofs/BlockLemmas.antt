-- Aligned blocks of pages: their sizes, and which share a page.
use Rattle.std.proofs.Common.{◌≡◌, ℕ, ◌+◌, ◌-◌, ◌*◌, ◌<◌, ◌≤◌, ◌%◌, ◌^◌, true, false, not, ◌&&◌, nat_lt, nat_le, ◌==◌, ◌⊎◌, inl, inr, sym, ap, ◌∙◌, arith, refl}
use Rattle.std.proofs.lemmas.Nat.{pow_pos}
use Rattle.std.proofs.lemmas.Bool.{true_from_ne_false, cases_lt}
use Rattle.std.proofs.lemmas.Bool.Decides.{nat_tests}
use Rattle.mind_base.proofs.Callers.{up_to_nine}
use Rattle.mind_base.specs.Page.{PageView, IsPage}
use Rattle.mind_base.specs.Range.{RangeView, IsRange, InRange, in_range}
use Rattle.region_directory.specs.Block.{AreBlocksApart, are_apart, block_of}

-- a block has at most 512 pages
pub pages-bound : (l : ℕ) → l ≤ 9 → 1 * 2 ^ l % 4294967296 ≤ 512
pages-bound = up_to_nine (λ l. 1 * 2 ^ l % 4294967296 ≤ 512) (omega arith) (omega arith) (omega arith) (omega arith) (omega arith) (omega arith) (omega arith) (omega arith) (omega arith) (omega arith)

-- the aligned block with a page is a block
abbrev StartFits : ℕ → Type 0
StartFits l = (n : ℕ) → ((n - n % 2 ^ l) % 2 ^ l ≡ 0) × (n - n % 2 ^ l ≤ n) × (n < n - n % 2 ^ l + 2 ^ l)

start-fits : (l : ℕ) → l ≤ 9 → StartFits l
start-fits = up_to_nine StartFits (λ n. (omega arith, omega arith, omega arith)) (λ n. (omega arith, omega arith, omega arith)) (λ n. (omega arith, omega arith, omega arith)) (λ n. (omega arith, omega arith, omega arith)) (λ n. (omega arith, omega arith, omega arith)) (λ n. (omega arith, omega arith, omega arith)) (λ n. (omega arith, omega arith, omega arith)) (λ n. (omega arith, omega arith, omega arith)) (λ n. (omega arith, omega arith, omega arith)) (λ n. (omega arith, omega arith, omega arith))

pub block_of-IsRange : (page : PageView) (l : ℕ) → IsPage page.domain page.number → l ≤ 9 → IsRange page.domain (page.number - page.number % 2 ^ l) l
block_of-IsRange page l h le =
    let f = start-fits l le page.number in
    (h.0, omega arith, le, f.0)

pub block_of-InRange : (page : PageView) (l : ℕ) → l ≤ 9 → InRange (block_of page l) page
block_of-InRange page l le = let f = start-fits l le page.number in record { domain = refl; from = f.1; below = f.2 }

-- the only aligned block of its size with a page starts there
abbrev OneStart : ℕ → Type 0
OneStart l = (b n : ℕ) → b % 2 ^ l ≡ 0 → b ≤ n → n < b + 2 ^ l → b ≡ n - n % 2 ^ l

one-start : (l : ℕ) → l ≤ 9 → OneStart l
one-start = up_to_nine OneStart (λ b n e p q. omega arith) (λ b n e p q. omega arith) (λ b n e p q. omega arith) (λ b n e p q. omega arith) (λ b n e p q. omega arith) (λ b n e p q. omega arith) (λ b n e p q. omega arith) (λ b n e p q. omega arith) (λ b n e p q. omega arith) (λ b n e p q. omega arith)

pub block_of-only : (range : RangeView) (page : PageView) → IsRange range.domain range.base range.log → InRange range page → range ≡ block_of page range.log
block_of-only range page h i =
    let e : range.base ≡ page.number - page.number % 2 ^ range.log = one-start range.log h.2 range.base page.number h.3 i.from i.below in
    let made : ℕ → ℕ → RangeView = λ domain base. record { domain = domain; base = base; log = range.log } in
    ap (λ domain. made domain range.base) (sym i.domain) ∙ ap (made page.domain) e

-- what the tests say of the numbers
pub shares-test : (d e a p b q : ℕ) → not (d == e && (nat_lt a (b + q) && nat_lt b (a + p))) ≡ false → (d ≡ e) × (a < b + q) × (b < a + p)
shares-test d e a p b q t = (grind (arith, nat_tests), grind (arith, nat_tests), grind (arith, nat_tests))

pub shares-none : (d e a p b q : ℕ) → not (d == e && (nat_lt a (b + q) && nat_lt b (a + p))) ≡ true → d ≡ e → a < b + q → b < a + p → ⊥
shares-none d e a p b q t f g h = grind (arith, nat_tests)

-- what the test for sharing a page says
pub apart-from_test : (a b : RangeView) → are_apart a b ≡ true → AreBlocksApart a b
apart-from_test a b t page p q =
    shares-none a.domain b.domain a.base (2 ^ a.log) b.base (2 ^ b.log) t (sym p.domain ∙ q.domain) (omega (arith, p.from, q.below)) (omega (arith, q.from, p.below))

-- two blocks that pass no test share the first page of one of them
share : (a b : RangeView) → AreBlocksApart a b → (a.domain ≡ b.domain) × (a.base < b.base + 2 ^ b.log) × (b.base < a.base + 2 ^ a.log) → (b.base < a.base) ⊎ (a.base ≤ b.base) → ⊥
share a b h m (inl lt) = h (record { domain = a.domain; number = a.base }) (record { domain = refl; from = omega arith; below = omega (arith, pow_pos a.log) }) (record { domain = m.0; from = omega arith; below = m.1 })
share a b h m (inr le) = h (record { domain = b.domain; number = b.base }) (record { domain = sym m.0; from = le; below = m.2 }) (record { domain = refl; from = omega arith; below = omega (arith, pow_pos b.log) })

pub test-from_apart : (a b : RangeView) → AreBlocksApart a b → are_apart a b ≡ true
test-from_apart a b h = true_from_ne_false _ (λ t. share a b h (shares-test a.domain b.domain a.base (2 ^ a.log) b.base (2 ^ b.log) t) (cases_lt b.base a.base))

-- the test for having a page says what it is to have it
pub range-test : (d e b n p : ℕ) → (d == e && nat_le b n && nat_lt n (b + p)) ≡ true → (d ≡ e) × (b ≤ n) × (n < b + p)
range-test d e b n p t = (grind (arith, nat_tests), grind (arith, nat_tests), grind (arith, nat_tests))

pub range-test_passes : (d e b n p : ℕ) → d ≡ e → b ≤ n → n < b + p → (d == e && nat_le b n && nat_lt n (b + p)) ≡ true
range-test_passes d e b n p f g h = grind (arith, nat_tests)

pub has-from_test : (r : RangeView) (page : PageView) → in_range r page ≡ true → InRange r page
has-from_test r page t =
    let f = range-test page.domain r.domain r.base page.number (2 ^ r.log) t in
    record { domain = f.0; from = f.1; below = f.2 }

pub test-from_has : (r : RangeView) (page : PageView) → InRange r page → in_range r page ≡ true
test-from_has r page h = range-test_passes page.domain r.domain r.base page.number (2 ^ r.log) h.domain h.from h.below

-- a block of one page has that page alone
pub one-page : (r : RangeView) (page : PageView) → (InRange r page → ⊥) → AreBlocksApart r (block_of page 0)
one-page r page h other p q =
    let n : other.number ≡ page.number = omega (arith, q.from, q.below) in
    h (record { domain = sym q.domain ∙ p.domain; from = omega (arith, p.from); below = omega (arith, p.below) })
