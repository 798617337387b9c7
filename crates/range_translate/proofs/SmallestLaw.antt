-- The smallest outlier that has a page is the one that the look-up finds.
use Rattle.std.proofs.Common.{◌≡◌, ℕ, zero, suc, ◌+◌, ◌<◌, ◌≤◌, ◌%◌, ◌^◌, ◌⊎◌, Bool, true, false, cond, nat_lt, List, [], ◌∷◌, Option, Some, None, IsTrue, All, Contains, refl, sym, ap, ◌∙◌, subst, inl, inr, arith}
use Rattle.std.specs.List.{AllByRecursion}
use Rattle.std.specs.Option.{option_map}
use Rattle.std.proofs.lemmas.Bool.{cases_lt, false≢true}
use Rattle.std.proofs.lemmas.Bool.Decides.{nat_tests}
use Rattle.std.proofs.lemmas.List.Elements.{recursion_from_All}
use Rattle.mind_base.specs.Page.{PageView}
use Rattle.mind_base.specs.Range.{RangeView, IsRange, InRange, in_range}
use Rattle.mind_base.specs.Home.{home_of}
use Rattle.mind_base.proofs.Callers.{up_to_nine, range_by_parts}
use Rattle.range_translate.specs.Block.{comes_before}
use Rattle.range_translate.specs.Order.{IsOrdered}
use Rattle.range_translate.specs.Place.{smaller_of, smallest_of, place_or_home, place_in_outlier, physical_place, IsSmallest}
use Rattle.range_translate.specs.Table.{TableView, IsTable}
use Rattle.range_translate.specs.declared.outliers.Outlier.{Outlier}
use Rattle.range_translate.proofs.BlockOrder.{not_after}
use Rattle.range_translate.proofs.TableFacts.{IsBlock}

pub in_range-true : (r : RangeView) (page : PageView) → InRange r page → in_range r page ≡ true
in_range-true r page h = let a = h.domain in let b = h.from in let c = h.below in grind (arith, nat_tests)

pub in_range-has : (r : RangeView) (page : PageView) → in_range r page ≡ true → InRange r page
in_range-has r page h = record { domain = grind (arith, nat_tests); from = grind (arith, nat_tests); below = grind (arith, nat_tests) }

-- two blocks of one size with a page in common start at the same page
abbrev SameBase : ℕ → Type 0
SameBase k = (a b n : ℕ) → a % 2 ^ k ≡ 0 → b % 2 ^ k ≡ 0 → a ≤ n → n < a + 2 ^ k → b ≤ n → n < b + 2 ^ k → a ≡ b

same_base : (k : ℕ) → k ≤ 9 → SameBase k
same_base = up_to_nine SameBase (λ a b n p q r s t u. omega arith) (λ a b n p q r s t u. omega arith) (λ a b n p q r s t u. omega arith) (λ a b n p q r s t u. omega arith) (λ a b n p q r s t u. omega arith) (λ a b n p q r s t u. omega arith) (λ a b n p q r s t u. omega arith) (λ a b n p q r s t u. omega arith) (λ a b n p q r s t u. omega arith) (λ a b n p q r s t u. omega arith)

abbrev pub IsBlockView : RangeView → Type 0
IsBlockView r = IsRange r.domain r.base r.log

same_range : (a b : RangeView) (page : PageView) → IsBlockView a → IsBlockView b → a.log ≡ b.log → InRange a page → InRange b page → a ≡ b
same_range a b page ia ib e ha hb =
    let align : b.base % 2 ^ a.log ≡ 0 = subst (λ (k : ℕ). b.base % 2 ^ k ≡ 0) (sym e) ib.3 in
    let below : page.number < b.base + 2 ^ a.log = subst (λ (k : ℕ). page.number < b.base + 2 ^ k) (sym e) hb.below in
    range_by_parts a b (sym ha.domain ∙ hb.domain) (same_base a.log ia.2 a.base b.base page.number ia.3 align ha.from ha.below hb.from below) e

-- the first of the outliers, or one of the rest
pub first_or_rest : (x : Outlier) (xs : List Outlier) (o : Outlier) → Contains (x ∷ xs) o → (x ≡ o) ⊎ Contains xs o
first_or_rest x xs o (zero, l, e) = inl e
first_or_rest x xs o (suc k, l, e) = inr (k, omega (arith, l), e)

all_has : (P : Outlier → Type 0) (xs : List Outlier) (o : Outlier) → AllByRecursion P xs → Contains xs o → P o
all_has P [] o all c = absurd (omega (arith, c.1))
all_has P (x ∷ xs) o all c = elim (first_or_rest x xs o c) [ inl e ↦ subst P e all.0 | inr r ↦ all_has P xs o all.1 r ]

abbrev Least : PageView → Outlier → List Outlier → Type 0
Least page o xs = AllByRecursion (λ p. InRange p.range page → o.range.log ≤ p.range.log) xs

-- an outlier of the list is not before itself
not_itself : (x : Outlier) (o : Outlier) → IsTrue (comes_before x.range o.range) → x.range ≡ o.range → ⊥
not_itself x o h e = let flip = not_after x.range o.range h in
    let itself : comes_before o.range x.range ≡ true = subst (λ (r : RangeView). comes_before r x.range ≡ true) e (subst (λ (r : RangeView). comes_before x.range r ≡ true) (sym e) h) in
    false≢true (sym flip ∙ itself)

-- of what the rest of the list gives, the outlier itself or a larger one, the outlier is chosen
abbrev NotSmaller : Outlier → Option Outlier → Type 0
NotSmaller o None = Unit {0}
NotSmaller o (Some p) = o.range.log ≤ p.range.log

smaller_of-first : (o : Outlier) (rest : Option Outlier) → NotSmaller o rest → smaller_of o rest ≡ Some o
smaller_of-first o None h = refl
smaller_of-first o (Some p) h = ap (λ (t : Bool). let r : Option Outlier = cond t (Some p) (Some o) in r) (not_less p.range.log o.range.log h) where
  not_less : (m n : ℕ) → n ≤ m → nat_lt m n ≡ false
  not_less m n l = grind (arith, nat_tests)

rest-not_smaller : (o : Outlier) (xs : List Outlier) (page : PageView) → Least page o xs → NotSmaller o (smallest_of xs page)
rest-not_smaller o [] page least = tt
rest-not_smaller o (x ∷ xs) page least = step (in_range x.range page) refl (smallest_of xs page) (rest-not_smaller o xs page least.1) where
  pick : (t : Bool) (p : Outlier) → o.range.log ≤ x.range.log → o.range.log ≤ p.range.log → NotSmaller o (cond t (Some p) (Some x))
  pick true p h k = k
  pick false p h k = h

  either : (rest : Option Outlier) → o.range.log ≤ x.range.log → NotSmaller o rest → NotSmaller o (smaller_of x rest)
  either None h k = h
  either (Some p) h k = pick (nat_lt p.range.log x.range.log) p h k

  step : (b : Bool) → in_range x.range page ≡ b → (rest : Option Outlier) → NotSmaller o rest → NotSmaller o (cond b (smaller_of x rest) rest)
  step true e rest k = either rest (least.0 (in_range-has x.range page e)) k
  step false e rest k = k

-- the smallest one of an ordered list of blocks is found
pub smallest_is : (xs : List Outlier) (page : PageView) (o : Outlier) → IsOrdered xs → AllByRecursion IsBlock xs → Contains xs o → InRange o.range page → Least page o xs → smallest_of xs page ≡ Some o
smallest_is [] page o ordered blocks c has least = absurd (omega (arith, c.1))
smallest_is (x ∷ xs) page o ordered blocks c has least = elim (first_or_rest x xs o c) [
  | inl e ↦ subst (λ (p : Outlier). cond (in_range x.range page) (smaller_of x (smallest_of xs page)) (smallest_of xs page) ≡ Some p) e
      (ap (λ (b : Bool). cond b (smaller_of x (smallest_of xs page)) (smallest_of xs page)) (in_range-true x.range page (subst (λ (p : Outlier). InRange p.range page) (sym e) has))
      ∙ smaller_of-first x (smallest_of xs page) (rest-not_smaller x xs page (subst (λ (p : Outlier). Least page p xs) (sym e) least.1)))
  | inr r ↦ (let later = smallest_is xs page o ordered.1 blocks.1 r has least.1 in
      step (in_range x.range page) refl (smallest_of xs page) later r)
] where
  smaller : (r : Contains xs o) → InRange x.range page → o.range.log < x.range.log
  smaller r h = elim (cases_lt o.range.log x.range.log) [
    | inl l ↦ l
    | inr l ↦ absurd (not_itself x o (all_has (λ p. IsTrue (comes_before x.range p.range)) xs o ordered.0 r)
        (same_range x.range o.range page blocks.0 (all_has IsBlock xs o blocks.1 r) (omega (arith, least.0 h)) h has))
  ]

  less : (m n : ℕ) → m < n → nat_lt m n ≡ true
  less m n l = grind (arith, nat_tests)

  step : (b : Bool) → in_range x.range page ≡ b → (rest : Option Outlier) → rest ≡ Some o → Contains xs o → cond b (smaller_of x rest) rest ≡ Some o
  step true e rest s r = ap (smaller_of x) s ∙ ap (λ (t : Bool). let q : Option Outlier = cond t (Some o) (Some x) in q) (less o.range.log x.range.log (smaller r (in_range-has x.range page e)))
  step false e rest s r = s

none_has : (xs : List Outlier) (page : PageView) → AllByRecursion (λ o. InRange o.range page → ⊥) xs → smallest_of xs page ≡ None
none_has [] page h = refl
none_has (x ∷ xs) page h = ap (λ (b : Bool). cond b (smaller_of x (smallest_of xs page)) (smallest_of xs page)) (not_in x.range page h.0) ∙ none_has xs page h.1 where
  not_in : (r : RangeView) (p : PageView) → (InRange r p → ⊥) → in_range r p ≡ false
  not_in r p k = elim (in_range r p) as (λ b. in_range r p ≡ b → b ≡ false) [ true ↦ λ e. absurd (k (in_range-has r p e)) | false ↦ λ e. refl ] refl

option_map-id : (o : Option (ℕ × ℕ)) → option_map (λ h. h) o ≡ o
option_map-id None = refl
option_map-id (Some h) = refl

pub moved : (table : TableView) (page : PageView) (o : Outlier) → IsTable table → IsSmallest table.outliers page o →
    physical_place table.homes table.outliers page ≡ option_map (λ _. place_in_outlier o page) (home_of table.homes page)
moved table page o is small =
    ap (λ (s : Option Outlier). option_map (place_or_home s page) (home_of table.homes page))
    (smallest_is table.outliers page o is.ordered (recursion_from_All IsBlock table.outliers is.blocks) small.member small.has
    (recursion_from_All (λ (p : Outlier). InRange p.range page → o.range.log ≤ p.range.log) table.outliers small.least))

pub at_home : (table : TableView) (page : PageView) → All (λ o. InRange o.range page → ⊥) table.outliers → physical_place table.homes table.outliers page ≡ home_of table.homes page
at_home table page h =
    ap (λ (s : Option Outlier). option_map (place_or_home s page) (home_of table.homes page)) (none_has table.outliers page (recursion_from_All (λ (o : Outlier). InRange o.range page → ⊥) table.outliers h))
    ∙ option_map-id (home_of table.homes page)
