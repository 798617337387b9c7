-- The order of blocks: it is strict, whole and goes on, so blocks that come before one and those that come after it part a list.
use Rattle.std.proofs.Common.{◌≡◌, ◌≢◌, ℕ, zero, suc, ◌<◌, ◌≤◌, Bool, true, false, cond, List, [], ◌∷◌, ◌++◌, length, take, drop, get_or, filter, IsTrue, refl, sym, ap, ◌∙◌, arith}
use Rattle.std.specs.List.{AllByRecursion}
use Rattle.std.proofs.lemmas.Bool.Decides.{nat_tests}
use Rattle.std.proofs.lemmas.List.Elements.{All-filter, All-from_recursion, recursion_from_All, filter_passes}
use Rattle.mind_base.specs.Range.{RangeView, same_range}
use Rattle.mind_base.proofs.Callers.{same_range-true}
use Rattle.range_translate.specs.Block.{comes_before}
use Rattle.range_translate.specs.Order.{IsOrdered, put_in_order}
use Rattle.range_translate.specs.declared.outliers.Outlier.{Outlier}

before_before : (a b c : RangeView) → comes_before a b ≡ true → comes_before b c ≡ true → comes_before a c ≡ true
before_before a b c h k = grind (arith, nat_tests)

pub not_after : (a b : RangeView) → comes_before a b ≡ true → comes_before b a ≡ false
not_after a b h = grind (arith, nat_tests)

other_blocks : (a b : RangeView) → (a ≢ b) → same_range a b ≡ false
other_blocks a b h = elim (same_range a b) as (λ t. same_range a b ≡ t → t ≡ false) [ true ↦ λ e. absurd (h (same_range-true a b e)) | false ↦ λ e. refl ] refl

before_else : (a b : RangeView) → comes_before a b ≡ false → same_range a b ≡ false → comes_before b a ≡ true
before_else a b h k = grind (arith, nat_tests)

abbrev pub before : RangeView → Outlier → Bool
before r o = comes_before o.range r

abbrev pub after : RangeView → Outlier → Bool
after r o = comes_before r o.range

kept : (test : Outlier → Bool) (x : Outlier) (xs ys : List Outlier) → test x ≡ true → filter test xs ≡ ys → filter test (x ∷ xs) ≡ x ∷ ys
kept test x xs ys t e = rw t (ap (λ zs. x ∷ zs) e)

left_out : (test : Outlier → Bool) (x : Outlier) (xs ys : List Outlier) → test x ≡ false → filter test xs ≡ ys → filter test (x ∷ xs) ≡ ys
left_out test x xs ys t e = rw t e

-- behind an outlier that comes after the block, all do
none_before : (r : RangeView) (x : Outlier) (xs : List Outlier) → after r x ≡ true → AllByRecursion (λ p. IsTrue (comes_before x.range p.range)) xs → filter (before r) xs ≡ []
none_before r x [] h all = refl
none_before r x (y ∷ ys) h all = left_out (before r) y ys _ (not_after r y.range (before_before r x.range y.range h all.0)) (none_before r x ys h all.1)

all_after : (r : RangeView) (x : Outlier) (xs : List Outlier) → after r x ≡ true → AllByRecursion (λ p. IsTrue (comes_before x.range p.range)) xs → filter (after r) xs ≡ xs
all_after r x [] h all = refl
all_after r x (y ∷ ys) h all = kept (after r) y ys ys (before_before r x.range y.range h all.0) (all_after r x ys h all.1)

abbrev pub Parts : RangeView → List Outlier → ℕ → Type 0
Parts r xs i = (take i xs ≡ filter (before r) xs) × (drop i xs ≡ filter (after r) xs)

-- where the first i outliers come before the block, and the next does not, they part so
pub parts_of : (r : RangeView) (xs : List Outlier) (i : ℕ) (d : Outlier) → IsOrdered xs → AllByRecursion (λ o. o.range ≢ r) xs → i ≤ length xs →
    ((k : ℕ) → k < i → before r (get_or xs k d) ≡ true) → (i < length xs → before r (get_or xs i d) ≡ false) → Parts r xs i
parts_of r [] zero d ordered apart within first next = (refl, refl)
parts_of r [] (suc i) d ordered apart within first next = absurd (omega (arith, within))
parts_of r (x ∷ xs) zero d ordered apart within first next =
    let not_before = next (omega arith) in
    let behind = before_else x.range r not_before (other_blocks x.range r apart.0) in
    (sym (left_out (before r) x xs [] not_before (none_before r x xs behind ordered.0)), sym (kept (after r) x xs xs behind (all_after r x xs behind ordered.0)))
parts_of r (x ∷ xs) (suc i) d ordered apart within first next =
    let here = first 0 (omega arith) in
    let rest = parts_of r xs i d ordered.1 apart.1 (omega (arith, within)) (λ k l. first (suc k) (omega arith)) (λ l. next (omega arith)) in
    (ap (λ zs. x ∷ zs) rest.0 ∙ sym (kept (before r) x xs _ here refl), rest.1 ∙ sym (left_out (after r) x xs _ (not_after x.range r here) refl))

pub ordered-filter : (test : Outlier → Bool) (xs : List Outlier) → IsOrdered xs → IsOrdered (filter test xs)
ordered-filter test [] h = tt
ordered-filter test (x ∷ xs) h = elim (test x) as (λ b. IsOrdered (cond b (x ∷ filter test xs) (filter test xs))) [
  | true ↦ let P : Outlier → Type 0 = λ p. IsTrue (comes_before x.range p.range) in
      (recursion_from_All P (filter test xs) (All-filter test P xs (All-from_recursion P xs h.0)), ordered-filter test xs h.1)
  | false ↦ ordered-filter test xs h.1
]

kept_passes : (test : Outlier → Bool) (xs : List Outlier) → AllByRecursion (λ o. IsTrue (test o)) (filter test xs)
kept_passes test xs = recursion_from_All (λ o. IsTrue (test o)) (filter test xs) (filter_passes test xs)

all_behind : (x : Outlier) (o : Outlier) (xs : List Outlier) → comes_before x.range o.range ≡ true → AllByRecursion (λ p. IsTrue (comes_before o.range p.range)) xs → AllByRecursion (λ p. IsTrue (comes_before x.range p.range)) xs
all_behind x o [] h all = tt
all_behind x o (y ∷ ys) h all = (before_before x.range o.range y.range h all.0, all_behind x o ys h all.1)

all-append : (P : Outlier → Type 0) (xs ys : List Outlier) → AllByRecursion P xs → AllByRecursion P ys → AllByRecursion P (xs ++ ys)
all-append P [] ys h k = k
all-append P (x ∷ xs) ys h k = (h.0, all-append P xs ys h.1 k)

ordered-join : (o : Outlier) (xs ys : List Outlier) → IsOrdered xs → IsOrdered ys → AllByRecursion (λ p. IsTrue (comes_before p.range o.range)) xs → AllByRecursion (λ p. IsTrue (comes_before o.range p.range)) ys → IsOrdered (xs ++ o ∷ ys)
ordered-join o [] ys h k b a = (a, k)
ordered-join o (x ∷ xs) ys h k b a = (all-append (λ p. IsTrue (comes_before x.range p.range)) xs (o ∷ ys) h.0 (b.0, all_behind x o ys b.0 a), ordered-join o xs ys h.1 k b.1 a)

pub ordered-put : (o : Outlier) (xs : List Outlier) → IsOrdered xs → IsOrdered (put_in_order o xs)
ordered-put o xs h = ordered-join o (filter (before o.range) xs) (filter (after o.range) xs) (ordered-filter (before o.range) xs h) (ordered-filter (after o.range) xs h)
    (kept_passes (before o.range) xs) (kept_passes (after o.range) xs)

-- where all outliers come before the block, none is behind it
pub parts_of_all : (r : RangeView) (xs : List Outlier) (i : ℕ) → IsOrdered xs → AllByRecursion (λ o. o.range ≢ r) xs → length xs ≤ i → ((k : ℕ) (d : Outlier) → k < i → before r (get_or xs k d) ≡ true) → Parts r xs (length xs)
parts_of_all r [] i ordered apart all first = (refl, refl)
parts_of_all r (x ∷ xs) i ordered apart all first =
    parts_of r (x ∷ xs) (length (x ∷ xs)) x ordered apart (omega arith) (λ k l. first k x (omega arith)) (λ l. absurd (omega (arith, l)))
