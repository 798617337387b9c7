-- What the searches of a list find.
use Rattle.std.proofs.Common.{◌≡◌, ℕ, ◌<◌, ◌≤◌, ◌-◌, Bool, true, false, cond, not, ◌⊎◌, inl, inr, Option, Some, None, List, [], ◌∷◌, length, get_or, refl, ap, sym, subst, ◌∙◌, zero, suc, arith}
use Rattle.std.specs.List.{position, position_or_len, slice_get, list_all}
use Rattle.std.specs.Option.{IsSomeAnd, IfSome}
use Rattle.std.proofs.lemmas.Bool.{cases_lt, false≢true}
use Rattle.std.proofs.lemmas.Bool.Decides.{nat_tests}
use Rattle.std.proofs.lemmas.List.Quantifiers.{position-Some}
use Rattle.std.proofs.lemmas.List.Sums.{prefix_len_passes}
use Rattle.mind_base.specs.Page.{PageView}
use Rattle.mind_base.specs.Range.{RangeView, IsRange, InRange, in_range}
use Rattle.region_directory.specs.Block.{are_apart, block_of}
use Rattle.region_directory.specs.Directory.{DirectoryView, IsDirectory}
use Rattle.region_directory.specs.Entry.{HasPage, NoneHas, MeetsNone, fresh_entry, largest_free}
use Rattle.region_directory.specs.declared.entries.Entry.{Entry}
use Rattle.region_directory.proofs.BlockLemmas.{has-from_test, test-from_has, apart-from_test, test-from_apart, block_of-only, one-page}

-- some entry, for reads past the end of a list
abbrev pub blank : Entry
blank = fresh_entry (record { domain = 0; base = 0; log = 0 })

-- between an element that is got and one that is read
pub at-got : (P : Entry → Type 0) (es : List Entry) (i : ℕ) (d : Entry) → IsSomeAnd (slice_get es i) P → (i < length es) × P (get_or es i d)
at-got P [] i d h = absurd h
at-got P (e ∷ es) zero d h = (omega arith, h)
at-got P (e ∷ es) (suc i) d h = let r = at-got P es i d h in (omega (arith, r.0), r.1)

pub got-at : (P : Entry → Type 0) (es : List Entry) (i : ℕ) (d : Entry) → i < length es → P (get_or es i d) → IsSomeAnd (slice_get es i) P
got-at P [] i d lt p = absurd (omega arith)
got-at P (e ∷ es) zero d lt p = p
got-at P (e ∷ es) (suc i) d lt p = got-at P es i d (omega arith) p

-- the entry that a search finds has the page
pub found-has : (es : List Entry) (page : PageView) (i : ℕ) → position (λ entry. in_range entry.range page) es ≡ Some i → HasPage es i page
found-has es page i e =
    let s = position-Some (λ entry. in_range entry.range page) es i blank e in
    got-at (λ entry. InRange entry.range page) es i blank s.0 (has-from_test (get_or es i blank).range page s.1)

-- no other one has it
pub only-one : (d : DirectoryView) (page : PageView) (i k : ℕ) → IsDirectory d → HasPage d.entries i page → HasPage d.entries k page → (i < k) ⊎ (k ≤ i) → (k < i) ⊎ (i ≤ k) → k ≡ i
only-one d page i k h p q (inl lt) b =
    let a = at-got (λ entry. InRange entry.range page) d.entries i blank p in
    let c = at-got (λ entry. InRange entry.range page) d.entries k blank q in
    absurd (h.apart i k blank lt c.0 page a.1 c.1)
only-one d page i k h p q (inr le) (inl lt) =
    let a = at-got (λ entry. InRange entry.range page) d.entries i blank p in
    let c = at-got (λ entry. InRange entry.range page) d.entries k blank q in
    absurd (h.apart k i blank lt a.0 page c.1 a.1)
only-one d page i k h p q (inr le) (inr ge) = omega arith

pub found-only : (d : DirectoryView) (page : PageView) → IsDirectory d → (r : Option ℕ) → IfSome r (λ i. HasPage d.entries i page) → IfSome r (λ i. (k : ℕ) → HasPage d.entries k page → k ≡ i)
found-only d page h None p = tt
found-only d page h (Some i) p = λ k q. only-one d page i k h p q (cases_lt i k) (cases_lt k i)

-- where a search finds nothing, every element fails the test
pub position-None : (p : Entry → Bool) (es : List Entry) → position p es ≡ None → length es ≤ position_or_len p es
position-None p es e = grind (arith, nat_tests)

pub not-true : (b : Bool) → not b ≡ true → b ≡ true → ⊥
not-true b n t = false≢true (sym (ap not t) ∙ n)

pub none-has : (es : List Entry) (page : PageView) → position (λ entry. in_range entry.range page) es ≡ None → NoneHas es page
none-has es page e k d lt h =
    not-true _ (prefix_len_passes (λ entry. not (in_range entry.range page)) es k d (omega (arith, position-None (λ entry. in_range entry.range page) es e))) (test-from_has (get_or es k d).range page h)

pub some-has : (es : List Entry) (page : PageView) (i : ℕ) → HasPage es i page → NoneHas es page → ⊥
some-has es page i h n = let a = at-got (λ entry. InRange entry.range page) es i blank h in n i blank a.0 a.1

-- what the test for meeting no entry says
pub free-from_test : (es : List Entry) (r : RangeView) → list_all (λ entry. are_apart entry.range r) es ≡ true → MeetsNone es r
free-from_test [] r t k d lt = absurd (omega arith)
free-from_test (e ∷ es) r t zero d lt = apart-from_test e.range r (grind arith)
free-from_test (e ∷ es) r t (suc k) d lt = free-from_test es r (grind arith) k d (omega arith)

pub test-from_free : (es : List Entry) (r : RangeView) → MeetsNone es r → list_all (λ entry. are_apart entry.range r) es ≡ true
test-from_free [] r h = refl
test-from_free (e ∷ es) r h =
    let first : are_apart e.range r ≡ true = test-from_apart e.range r (h 0 e (omega arith)) in
    let rest : list_all (λ entry. are_apart entry.range r) es ≡ true = test-from_free es r (λ k d lt. h (suc k) d (omega arith)) in
    grind arith

-- the block that a search for a free one ends with meets no entry
pub new-free : (es : List Entry) (page : PageView) (r : RangeView) → r ≡ block_of page r.log → (0 < r.log → MeetsNone es r) → NoneHas es page → (0 < r.log) ⊎ (r.log ≤ 0) → MeetsNone es r
new-free es page r e f n (inl lt) = f lt
new-free es page r e f n (inr le) =
    let z : r ≡ block_of page 0 = e ∙ ap (block_of page) (omega arith) in
    subst (MeetsNone es) (sym z) (λ k d lt. one-page (get_or es k d).range page (n k d lt))

-- and no larger one does
pub new-largest : (es : List Entry) (page : PageView) (log : ℕ) (r other : RangeView) → ((k : ℕ) → r.log < k → k ≤ log → MeetsNone es (block_of page k) → ⊥) → IsRange other.domain other.base other.log → InRange other page → other.log ≤ log → MeetsNone es other → (r.log < other.log) ⊎ (other.log ≤ r.log) → other.log ≤ r.log
new-largest es page log r other h b i le free (inl lt) = absurd (h other.log lt le (subst (MeetsNone es) (block_of-only other page b i) free))
new-largest es page log r other h b i le free (inr done) = done

-- one step of the search for the largest free block: the block of this size is free, or a smaller one is sought
pub largest_free-here : (es : List Entry) (page : PageView) (n : ℕ) → 0 < n → list_all (λ entry. are_apart entry.range (block_of page n)) es ≡ true → largest_free es page n ≡ block_of page n
largest_free-here es page zero lt t = absurd (omega arith)
largest_free-here es page (suc n) lt t = ap (λ b. cond b (block_of page (suc n)) (largest_free es page n)) t

pub largest_free-smaller : (es : List Entry) (page : PageView) (n : ℕ) → 0 < n → list_all (λ entry. are_apart entry.range (block_of page n)) es ≡ false → largest_free es page n ≡ largest_free es page (n - 1)
largest_free-smaller es page zero lt f = absurd (omega arith)
largest_free-smaller es page (suc n) lt f =
    let e : n ≡ suc n - 1 = omega arith in
    ap (λ b. cond b (block_of page (suc n)) (largest_free es page n)) f ∙ ap (largest_free es page) e
