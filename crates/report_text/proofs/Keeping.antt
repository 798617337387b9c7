-- The ordered set beside the list of blocks that it keeps.
use Rattle.std.proofs.Common.{◌≡◌, ℕ, ◌+◌, ◌∙◌, Bool, true, false, not, cond, ◌&&◌, ◌||◌, ◌==◌, List, [], ◌∷◌, ◌++◌, length, filter, ap, sym, refl, arith, if◌then◌else◌}
use Rattle.std.proofs.Math.Bool.{and_assoc}
use Rattle.std.specs.Cmp.{IsEquivalence, tied_then}
use Rattle.std.specs.Ordering.{is_eq, nat_cmp, ordering_then}
use Rattle.std.specs.List.{list_any, IsDistinct, AllByRecursion}
use Rattle.std.specs.BTreeSet.{BTreeSet, contains, Updates}
use Rattle.std.proofs.lemmas.Grind.{common_steps}
use Rattle.std.proofs.lemmas.List.Folds.{list_any-append}
use Rattle.std.proofs.lemmas.List.{length-append}
use Rattle.std.proofs.lemmas.Map.Views.{any-filter_same}
use Rattle.std.proofs.lemmas.Map.Keys.{IsDistinct-head, IsDistinct-tail, IsDistinct-cons, IsDistinct-push}
use Rattle.mind_base.specs.Range.{RangeView, same_range}
use Rattle.mind_base.proofs.Callers.{same_range-laws}
use Rattle.report_text.specs.declared.force.BlockKey.{BlockKey}
use Rattle.report_text.specs.Force.{has_block, without, entered}
use Rattle.report_text.specs.Kept.{key_of, key_cmp, HoldsKeys}

-- ---- keys compare equal where the blocks are the same
number-test : (a b : ℕ) → is_eq (nat_cmp a b) ≡ (a == b)
number-test a b = grind (arith, common_steps)

pub key-test : (a b : RangeView) → is_eq (key_cmp (key_of a) (key_of b)) ≡ same_range a b
key-test a b =
    let first = nat_cmp a.domain b.domain in
    let second = nat_cmp a.base b.base in
    let third = nat_cmp a.log b.log in
    sym (tied_then first (ordering_then second third))
    ∙ ap (λ t. is_eq first && t) (sym (tied_then second third))
    ∙ ap (λ t. t && (is_eq second && is_eq third)) (number-test a.domain b.domain)
    ∙ ap (λ t. (a.domain == b.domain) && (t && is_eq third)) (number-test a.base b.base)
    ∙ ap (λ t. (a.domain == b.domain) && ((a.base == b.base) && t)) (number-test a.log b.log)
    ∙ sym (and_assoc (a.domain == b.domain) (a.base == b.base) (a.log == b.log))

-- ---- the test of blocks decides whether they are equal
both : (p q : Bool) → (p && q) ≡ true → (p ≡ true) × (q ≡ true)
both true q h = (refl, h)
both false q h = absurd (cc)

-- ---- lists without repeats
module _ {K : Type 0} {e : K → K → Bool} (laws : IsEquivalence e) where
  alone : (r x : K) (xs : List K) → e r x ≡ true → AllByRecursion (λ y. e x y ≡ false) xs → list_any (e r) xs ≡ false
  alone r x [] h apart = refl
  alone r x (y ∷ ys) h apart = rw (laws.congr r x y h ∙ apart.0) (alone r x ys h apart.1)

  length-step : (r x : K) (xs : List K) (t : Bool) → e r x ≡ t → AllByRecursion (λ y. e x y ≡ false) xs
      → length (filter (λ b. not (e r b)) xs) + cond (list_any (e r) xs) 1 0 ≡ length xs
      → length (filter (λ b. not (e r b)) (x ∷ xs)) + cond (list_any (e r) (x ∷ xs)) 1 0 ≡ length (x ∷ xs)
  length-step r x xs true h apart before =
      let all : length (filter (λ b. not (e r b)) xs) + 0 ≡ length xs
      = ap (λ t. length (filter (λ b. not (e r b)) xs) + cond t 1 0) (sym (alone r x xs h apart)) ∙ before in
      rw h (omega (arith, all))
  length-step r x xs false h apart before = rw h (omega (arith, before))

  -- taking a key out takes one, where it is there
  pub length-out : (r : K) (xs : List K) → IsDistinct e xs → length (filter (λ b. not (e r b)) xs) + cond (list_any (e r) xs) 1 0 ≡ length xs
  length-out r [] d = refl
  length-out r (x ∷ xs) d = length-step r x xs (e r x) refl (IsDistinct-head e x xs d) (length-out r xs (IsDistinct-tail e x xs d))

  kept-apart : (x : K) (p : K → Bool) (xs : List K) → AllByRecursion (λ y. e x y ≡ false) xs → AllByRecursion (λ y. e x y ≡ false) (filter p xs)
  kept-apart x p [] apart = tt
  kept-apart x p (y ∷ ys) apart =
      elim (p y) as (λ t. AllByRecursion (λ y. e x y ≡ false) (cond t (y ∷ filter p ys) (filter p ys))) [
        | true ↦ (apart.0, kept-apart x p ys apart.1)
        | false ↦ kept-apart x p ys apart.1
      ]

  -- what is left has no repeats
  pub distinct-out : (p : K → Bool) (xs : List K) → IsDistinct e xs → IsDistinct e (filter p xs)
  distinct-out p [] d = d
  distinct-out p (x ∷ xs) d =
      elim (p x) as (λ t. IsDistinct e (cond t (x ∷ filter p xs) (filter p xs))) [
        | true ↦ IsDistinct-cons e x (filter p xs) (kept-apart x p xs (IsDistinct-head e x xs d)) (distinct-out p xs (IsDistinct-tail e x xs d))
        | false ↦ distinct-out p xs (IsDistinct-tail e x xs d)
      ]

  not-and : (t h : Bool) → (not t && h) ≡ cond t false h
  not-and true h = refl
  not-and false h = refl

  -- and all but that key
  pub any-out : (r q : K) (xs : List K) → list_any (e q) (filter (λ b. not (e r b)) xs) ≡ cond (e r q) false (list_any (e q) xs)
  any-out r q xs = any-filter_same (e q) (λ b. not (e r b)) (not (e r q)) (λ k h. ap not (laws.symm r k ∙ sym (laws.congr q k r h) ∙ laws.symm q r)) xs
      ∙ not-and (e r q) (list_any (e q) xs)

  last-any : (q r : K) (h : Bool) → (h || (e q r || false)) ≡ cond (e r q) true h
  last-any q r h = ap (λ t. h || (t || false)) (laws.symm q r) ∙ turned h (e r q)
    where
      turned : (h t : Bool) → (h || (t || false)) ≡ cond t true h
      turned true true = refl
      turned true false = refl
      turned false true = refl
      turned false false = refl

  found : (r q : K) (xs : List K) (t : Bool) → e r q ≡ t → list_any (e r) xs ≡ true → list_any (e q) xs ≡ cond t true (list_any (e q) xs)
  found r q xs true h there = alike xs (laws.symm q r ∙ h) ∙ there
    where
      alike : (xs : List K) → e q r ≡ true → list_any (e q) xs ≡ list_any (e r) xs
      alike [] same = refl
      alike (x ∷ xs) same = ap (λ t. t || list_any (e q) xs) (laws.congr q r x same) ∙ ap (λ t. e r x || t) (alike xs same)
  found r q xs false h there = refl

  -- a key put in, where it was not there yet
  pub any-in : (r q : K) (xs : List K) (t : Bool) → list_any (e r) xs ≡ t → list_any (e q) (if t then xs else xs ++ r ∷ []) ≡ cond (e r q) true (list_any (e q) xs)
  any-in r q xs true there = found r q xs (e r q) refl there
  any-in r q xs false there = list_any-append (e q) xs (r ∷ []) ∙ last-any q r (list_any (e q) xs)

  pub length-in : (r : K) (xs : List K) (t : Bool) → length (if t then xs else xs ++ r ∷ []) ≡ length xs + cond (not t) 1 0
  length-in r xs true = omega arith
  length-in r xs false = length-append xs (r ∷ [])

  pub distinct-in : (r : K) (xs : List K) (t : Bool) → list_any (e r) xs ≡ t → IsDistinct e xs → IsDistinct e (if t then xs else xs ++ r ∷ [])
  distinct-in r xs true there d = d
  distinct-in r xs false there d = IsDistinct-push laws xs r d there

-- ---- the set beside the list
-- a block taken out of both
pub keeps-without : (kept after : BTreeSet BlockKey) (key : BlockKey) (r : RangeView) (blocks : List RangeView) → key ≡ key_of r → Updates key_cmp kept after key false
    → length after.keys + cond (contains key_cmp kept key) 1 0 ≡ length kept.keys → HoldsKeys kept blocks → HoldsKeys after (without r blocks)
keeps-without kept after key r blocks e updates shorter keeps = record {
  same = λ q. updates.0 (key_of q) ∙ ap (λ k. cond (is_eq (key_cmp k (key_of q))) false (contains key_cmp kept (key_of q))) e
      ∙ ap (λ t. cond t false (contains key_cmp kept (key_of q))) (key-test r q)
      ∙ ap (λ t. cond (same_range r q) false t) (keeps.same q) ∙ sym (any-out same_range-laws r q blocks);
  length = let out = length-out same_range-laws r blocks keeps.apart in
      let one : Bool → ℕ = λ t. cond t 1 0 in
      let there : one (contains key_cmp kept key) ≡ one (has_block r blocks) = ap (λ k. one (contains key_cmp kept k)) e ∙ ap one (keeps.same r) in
      let size = keeps.length in omega (arith, out, there, size, shorter);
  apart = distinct-out same_range-laws (λ b. not (same_range r b)) blocks keeps.apart;
}

-- a block put into both
pub keeps-entered : (kept after : BTreeSet BlockKey) (key : BlockKey) (r : RangeView) (blocks : List RangeView) → key ≡ key_of r → Updates key_cmp kept after key true
    → length after.keys ≡ length kept.keys + cond (not (contains key_cmp kept key)) 1 0 → HoldsKeys kept blocks → HoldsKeys after (entered r blocks)
keeps-entered kept after key r blocks e updates longer keeps = record {
  same = λ q. updates.0 (key_of q) ∙ ap (λ k. cond (is_eq (key_cmp k (key_of q))) true (contains key_cmp kept (key_of q))) e
      ∙ ap (λ t. cond t true (contains key_cmp kept (key_of q))) (key-test r q)
      ∙ ap (λ t. cond (same_range r q) true t) (keeps.same q) ∙ sym (any-in same_range-laws r q blocks (has_block r blocks) refl);
  length = longer ∙ ap (λ k. length kept.keys + cond (not (contains key_cmp kept k)) 1 0) e
      ∙ ap (λ t. length kept.keys + cond (not t) 1 0) (keeps.same r) ∙ ap (λ n. n + cond (not (has_block r blocks)) 1 0) keeps.length
      ∙ sym (length-in same_range-laws r blocks (has_block r blocks));
  apart = distinct-in same_range-laws r blocks (has_block r blocks) refl keeps.apart;
}

-- a set with no keys
pub keeps-none : (kept : BTreeSet BlockKey) → kept.keys ≡ [] → HoldsKeys kept []
unfolding IsDistinct
keeps-none kept none = record {
  same = λ r. ap (list_any (λ k. is_eq (key_cmp (key_of r) k))) none;
  length = ap length none;
  apart = tt;
}
