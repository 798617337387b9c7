-- Outliers in order: what entering one among them changes, and what leaving some out changes.
use Rattle.std.proofs.Common.{◌≡◌, ◌≢◌, suc, ◌+◌, Bool, true, false, cond, List, [], ◌∷◌, ◌++◌, length, filter, Contains, refl, sym, ap, ◌∙◌, arith, inl, inr, length-append}
use Rattle.std.specs.List.{AllByRecursion}
use Rattle.std.proofs.lemmas.Bool.{cases_Bool}
use Rattle.std.proofs.lemmas.List.Elements.{filter-append}
use Rattle.mind_base.specs.Page.{PageView}
use Rattle.mind_base.specs.Range.{RangeView, in_range}
use Rattle.range_translate.specs.Order.{IsOrdered, put_in_order}
use Rattle.range_translate.specs.Place.{smaller_of, smallest_of}
use Rattle.range_translate.specs.declared.outliers.Outlier.{Outlier}
use Rattle.range_translate.proofs.Callers.{before, after, not_after, parts_of}

abbrev pub IsNew : RangeView → List Outlier → Type 0
IsNew range outliers = AllByRecursion (λ o. o.range ≢ range) outliers

-- those before a block and those after it are all
pub before_and_after : (r : RangeView) (xs : List Outlier) → IsOrdered xs → IsNew r xs → filter (before r) xs ++ filter (after r) xs ≡ xs
before_and_after r [] ordered new = refl
before_and_after r (x ∷ xs) ordered new = elim (cases_Bool (before r x)) [
  | inl t ↦
      ap (λ b. cond b (x ∷ filter (before r) xs) (filter (before r) xs) ++ filter (after r) (x ∷ xs)) t
      ∙ ap (λ b. x ∷ (filter (before r) xs ++ cond b (x ∷ filter (after r) xs) (filter (after r) xs))) (not_after x.range r t)
      ∙ ap (λ ys. x ∷ ys) (before_and_after r xs ordered.1 new.1)
  | inr f ↦
      (let p = parts_of r (x ∷ xs) 0 x ordered new (omega arith) (λ k l. absurd (omega (arith, l))) (λ l. f) in
      ap (λ ys. ys ++ filter (after r) (x ∷ xs)) (sym p.0) ∙ sym p.1)
]

-- how many pass a test is one more where the entered one does
pub put-count : (t : Outlier → Bool) (o : Outlier) (xs : List Outlier) → IsOrdered xs → IsNew o.range xs → length (filter t (put_in_order o xs)) ≡ length (filter t (o ∷ xs))
put-count t o xs ordered new =
    let low = filter (before o.range) xs in
    let high = filter (after o.range) xs in
    let all : filter t xs ≡ filter t low ++ filter t high = ap (filter t) (sym (before_and_after o.range xs ordered new)) ∙ filter-append t low high in
    ap length (filter-append t low (o ∷ high)) ∙ length-append (filter t low) (filter t (o ∷ high))
    ∙ step (t o) (filter t low) (filter t high) (filter t xs) (ap length all ∙ length-append (filter t low) (filter t high)) where
      step : (b : Bool) (ys zs ws : List Outlier) → length ws ≡ length ys + length zs → length ys + length (cond b (o ∷ zs) zs) ≡ length (cond b (o ∷ ws) ws)
      step true ys zs ws e = omega (arith, e)
      step false ys zs ws e = sym e

-- a page that it has not is not found in it
between : (o : Outlier) (page : PageView) (ys zs : List Outlier) → in_range o.range page ≡ false → smallest_of (ys ++ o ∷ zs) page ≡ smallest_of (ys ++ zs) page
between o page [] zs f = ap (λ b. cond b (smaller_of o (smallest_of zs page)) (smallest_of zs page)) f
between o page (y ∷ ys) zs f = ap (λ s. cond (in_range y.range page) (smaller_of y s) s) (between o page ys zs f)

pub put-smallest : (o : Outlier) (page : PageView) (xs : List Outlier) → IsOrdered xs → IsNew o.range xs → in_range o.range page ≡ false → smallest_of (put_in_order o xs) page ≡ smallest_of xs page
put-smallest o page xs ordered new f =
    between o page (filter (before o.range) xs) (filter (after o.range) xs) f ∙ ap (λ ys. smallest_of ys page) (before_and_after o.range xs ordered new)

-- nor is one that those left out have not
pub left-smallest : (u : Outlier → Bool) (page : PageView) (xs : List Outlier) → AllByRecursion (λ x. u x ≡ false → in_range x.range page ≡ false) xs → smallest_of (filter u xs) page ≡ smallest_of xs page
left-smallest u page [] h = refl
left-smallest u page (x ∷ xs) h = elim (cases_Bool (u x)) [
  | inl t ↦
      ap (λ b. smallest_of (cond b (x ∷ filter u xs) (filter u xs)) page) t
      ∙ ap (λ s. cond (in_range x.range page) (smaller_of x s) s) (left-smallest u page xs h.1)
  | inr f ↦
      ap (λ b. smallest_of (cond b (x ∷ filter u xs) (filter u xs)) page) f ∙ left-smallest u page xs h.1
      ∙ sym (ap (λ b. cond b (smaller_of x (smallest_of xs page)) (smallest_of xs page)) (h.0 f))
]

-- what holds of all holds of those that are left, and of those with one entered
pub all-append : (P : Outlier → Type 0) (xs ys : List Outlier) → AllByRecursion P xs → AllByRecursion P ys → AllByRecursion P (xs ++ ys)
all-append P [] ys h k = k
all-append P (x ∷ xs) ys h k = (h.0, all-append P xs ys h.1 k)

pub all-left : (P : Outlier → Type 0) (u : Outlier → Bool) (xs : List Outlier) → AllByRecursion P xs → AllByRecursion P (filter u xs)
all-left P u [] h = tt
all-left P u (x ∷ xs) h = elim (u x) as (λ b. AllByRecursion P (cond b (x ∷ filter u xs) (filter u xs))) [
  | true ↦ (h.0, all-left P u xs h.1)
  | false ↦ all-left P u xs h.1
]

pub all-put : (P : Outlier → Type 0) (o : Outlier) (xs : List Outlier) → P o → AllByRecursion P xs → AllByRecursion P (put_in_order o xs)
all-put P o xs p h = all-append P (filter (before o.range) xs) (o ∷ filter (after o.range) xs) (all-left P (before o.range) xs h) (p, all-left P (after o.range) xs h)

-- the entered one is there
pub middle : (o : Outlier) (ys zs : List Outlier) → Contains (ys ++ o ∷ zs) o
middle o [] zs = (0, omega arith, refl)
middle o (y ∷ ys) zs = let m = middle o ys zs in (suc m.0, omega (arith, m.1), m.2)

pub put-there : (o : Outlier) (xs : List Outlier) → Contains (put_in_order o xs) o
put-there o xs = middle o (filter (before o.range) xs) (filter (after o.range) xs)

-- what holds of those that pass a test holds of what is left by it
pub all-passing : (P : Outlier → Type 0) (u : Outlier → Bool) (xs : List Outlier) → AllByRecursion (λ x. u x ≡ true → P x) xs → AllByRecursion P (filter u xs)
all-passing P u [] h = tt
all-passing P u (x ∷ xs) h = step (u x) refl (all-passing P u xs h.1) where
  step : (b : Bool) → u x ≡ b → AllByRecursion P (filter u xs) → AllByRecursion P (cond b (x ∷ filter u xs) (filter u xs))
  step true e rest = (h.0 e, rest)
  step false e rest = rest

pub all-map : (P Q : Outlier → Type 0) (xs : List Outlier) → ((x : Outlier) → P x → Q x) → AllByRecursion P xs → AllByRecursion Q xs
all-map P Q [] f h = tt
all-map P Q (x ∷ xs) f h = (f x h.0, all-map P Q xs f h.1)
