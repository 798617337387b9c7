-- The first entry that passes a test, and changes of entries one after another.
use Rattle.std.proofs.Common.{◌≡◌, ℕ, ◌+◌, ◌<◌, ◌≤◌, Bool, true, false, cond, Option, Some, None, List, [], ◌∷◌, ◌++◌, length, map, get_or, take, drop, slice_set, refl, ap, sym, ◌∙◌, subst, zero, suc, arith}
use Rattle.std.specs.List.{All, find, slice_get}
use Rattle.std.specs.Option.{IfSome}
use Rattle.std.proofs.lemmas.Bool.{false≢true}
use Rattle.std.proofs.lemmas.List.Edits.{map_over_more}
use Rattle.std.proofs.lemmas.Option.{slice_get-get_or, slice_get_within, get_or_from_slice_get, none-some}
use Rattle.region_directory.specs.Entry.{changed_at}
use Rattle.region_directory.specs.declared.entries.Entry.{Entry}
use Rattle.region_directory.proofs.Callers.{set-changed}
use Rattle.invalidate_multicast.specs.First.{first_changed, IsFirst}

some-same : (a b : Entry) → Some a ≡ Some b → a ≡ b
some-same a b e = (cc)

-- the first entry behind another is first among the later ones
later-first : (test : Entry → Bool) (x : Entry) (xs : List Entry) (i : ℕ) (e : Entry) → IsFirst test (x ∷ xs) (suc i) e → IsFirst test xs i e
later-first test x xs i e h = record { stands = h.stands; passes = h.passes; before = λ k lt. h.before (suc k) (omega arith) }

pub first_changed-at : (test : Entry → Bool) (change : Entry → Entry) (es : List Entry) (i : ℕ) (e : Entry) → IsFirst test es i e → first_changed test change es ≡ changed_at i change es
first_changed-at test change [] i e h = absurd (none-some e h.stands)
first_changed-at test change (x ∷ xs) zero e h =
    ap (λ b. cond b (change x ∷ xs) (x ∷ first_changed test change xs)) (ap test (some-same x e h.stands) ∙ h.passes)
first_changed-at test change (x ∷ xs) (suc i) e h =
    ap (λ b. cond b (change x ∷ xs) (x ∷ first_changed test change xs)) (h.before 0 (omega arith)) ∙ ap (λ rest. x ∷ rest) (first_changed-at test change xs i e (later-first test x xs i e h))

pub find-first : (test : Entry → Bool) (es : List Entry) (i : ℕ) (e : Entry) → IsFirst test es i e → find test es ≡ Some e
find-first test [] i e h = absurd (none-some e h.stands)
find-first test (x ∷ xs) zero e h =
    ap (λ b. cond b (Some x) (find test xs)) (ap test (some-same x e h.stands) ∙ h.passes) ∙ h.stands
find-first test (x ∷ xs) (suc i) e h =
    ap (λ b. cond b (Some x) (find test xs)) (h.before 0 (omega arith)) ∙ find-first test xs i e (later-first test x xs i e h)

-- where no entry passes nothing is changed and nothing is found
pub first_changed-none : (test : Entry → Bool) (change : Entry → Entry) (es : List Entry) → All (λ e. test e ≡ false) es → first_changed test change es ≡ es
first_changed-none test change [] h = refl
first_changed-none test change (x ∷ xs) h =
    ap (λ b. cond b (change x ∷ xs) (x ∷ first_changed test change xs)) (h 0 x (omega arith)) ∙ ap (λ rest. x ∷ rest) (first_changed-none test change xs (λ k d lt. h (suc k) d (omega arith)))

pub find-none : (test : Entry → Bool) (es : List Entry) → All (λ e. test e ≡ false) es → find test es ≡ None
find-none test [] h = refl
find-none test (x ∷ xs) h =
    ap (λ b. cond b (Some x) (find test xs)) (h 0 x (omega arith)) ∙ find-none test xs (λ k d lt. h (suc k) d (omega arith))

-- an entry that passes is one of which not all fail
pub first-not_none : (test : Entry → Bool) (es : List Entry) (i : ℕ) (e : Entry) → IsFirst test es i e → All (λ x. test x ≡ false) es → ⊥
first-not_none test es i e h none =
    let at : get_or es i e ≡ e = get_or_from_slice_get es i e e h.stands in
    false≢true (sym (none i e (slice_get_within es i e h.stands)) ∙ ap test at ∙ h.passes)

-- what fails before the end fails everywhere
pub all-before : (test : Entry → Bool) (es : List Entry) (n : ℕ) → length es ≤ n → ((k : ℕ) → k < n → IfSome (slice_get es k) (λ e. test e ≡ false)) → All (λ e. test e ≡ false) es
all-before test es n le h k d lt =
    subst (λ (o : Option Entry). IfSome o (λ e. test e ≡ false)) (slice_get-get_or es k d lt) (h k (omega arith))

-- a change at the entry read there
pub changed-agree : (i : ℕ) (f g : Entry → Entry) (es : List Entry) (e : Entry) → slice_get es i ≡ Some e → f e ≡ g e → changed_at i f es ≡ changed_at i g es
changed-agree i f g [] e h q = refl
changed-agree zero f g (x ∷ xs) e h q =
    let at : x ≡ e = some-same x e h in
    ap (λ y. y ∷ xs) (ap f at ∙ q ∙ sym (ap g at))
changed-agree (suc i) f g (x ∷ xs) e h q = ap (λ rest. x ∷ rest) (changed-agree i f g xs e h q)

-- two changes of one entry
pub changed-twice : (i : ℕ) (f g : Entry → Entry) (es : List Entry) → changed_at i f (changed_at i g es) ≡ changed_at i (λ e. f (g e)) es
changed-twice i f g [] = refl
changed-twice zero f g (x ∷ xs) = refl
changed-twice (suc i) f g (x ∷ xs) = ap (λ rest. x ∷ rest) (changed-twice i f g xs)

-- one step of a loop that changes each entry
pub changed-more : (f change : Entry → Entry) (old es : List Entry) (i : ℕ) (e : Entry) → i < length old → es ≡ map f (take i old) ++ drop i old → slice_get es i ≡ Some e → change e ≡ f e → changed_at i change es ≡ map f (take (i + 1) old) ++ drop (i + 1) old
changed-more f change old es i e lt so read agrees =
    let at : get_or es i e ≡ e = get_or_from_slice_get es i e e read in
    changed-agree i change f es e read agrees ∙ sym (set-changed i f es e (slice_get_within es i e read)) ∙ ap (λ x. slice_set es i (f x)) at ∙ map_over_more f old es i e lt so (sym at)

-- the first entry is the one that is read there
pub IsFirst-read : (test : Entry → Bool) (es : List Entry) (i : ℕ) (e f : Entry) → IsFirst test es i e → slice_get es i ≡ Some f → IsFirst test es i f
IsFirst-read test es i e f h read =
    let same : e ≡ f = some-same e f (sym h.stands ∙ read) in
    record { stands = read; passes = subst (λ (x : Entry). test x ≡ true) same h.passes; before = h.before }
