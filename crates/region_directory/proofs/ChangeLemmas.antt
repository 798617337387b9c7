-- What changes of one entry leave of the list.
use Rattle.std.proofs.Common.{◌≡◌, ℕ, ◌<◌, List, [], ◌∷◌, length, map, get_or, refl, ap, ◌∙◌, zero, suc, slice_set, arith}
use Rattle.std.specs.List.{All, AllByRecursion, insert, slice_get}
use Rattle.std.specs.Option.{option_map}
use Rattle.mind_base.specs.Range.{RangeView}
use Rattle.region_directory.specs.Entry.{changed_at, with_change}
use Rattle.region_directory.specs.declared.changes.Change.{Change}
use Rattle.region_directory.specs.declared.changes.Change.TheVariants as change
use Rattle.region_directory.specs.declared.entries.Entry.{Entry}

-- the blocks of the entries, in order
abbrev pub ranges_of : List Entry → List RangeView
ranges_of entries = map (λ entry. entry.range) entries

-- the block stays, whatever else changes
pub with_change-range : (c : Change) (e : Entry) → (with_change c e).range ≡ e.range
with_change-range (change.State state) e = refl
with_change-range (change.Busy busy) e = refl
with_change-range (change.Hits count) e = refl

-- a write of one entry is a change of it alone
pub set-changed : (i : ℕ) (f : Entry → Entry) (es : List Entry) (d : Entry) → i < length es → slice_set es i (f (get_or es i d)) ≡ changed_at i f es
set-changed i f [] d lt = absurd (omega arith)
set-changed zero f (e ∷ es) d lt = refl
set-changed (suc i) f (e ∷ es) d lt = ap (λ rest. e ∷ rest) (set-changed i f es d (omega arith))

-- the blocks stay where the change of the entry keeps its block
pub ranges-changed : (i : ℕ) (f : Entry → Entry) (es : List Entry) → ((e : Entry) → (f e).range ≡ e.range) → ranges_of (changed_at i f es) ≡ ranges_of es
ranges-changed i f [] k = refl
ranges-changed zero f (e ∷ es) k = ap (λ r. r ∷ ranges_of es) (k e)
ranges-changed (suc i) f (e ∷ es) k = ap (λ rest. e.range ∷ rest) (ranges-changed i f es k)

pub ranges-map : (f : Entry → Entry) (es : List Entry) → ((e : Entry) → (f e).range ≡ e.range) → ranges_of (map f es) ≡ ranges_of es
ranges-map f [] k = refl
ranges-map f (e ∷ es) k = ap (λ r. r ∷ ranges_of (map f es)) (k e) ∙ ap (λ rest. e.range ∷ rest) (ranges-map f es k)

-- an inserted entry keeps what holds of the block of each
pub all-insert : (P : RangeView → Type 0) (es : List Entry) (k : ℕ) (f : Entry) → AllByRecursion P (ranges_of es) → P f.range → AllByRecursion P (ranges_of (insert es k f))
all-insert P [] zero f h p = (p, tt)
all-insert P [] (suc k) f h p = (p, tt)
all-insert P (e ∷ es) zero f h p = (p, h)
all-insert P (e ∷ es) (suc k) f h p = (h.0, all-insert P es k f h.1 p)

-- so does a change of what is said
pub all-weaker : (P Q : RangeView → Type 0) → ((r : RangeView) → P r → Q r) → (rs : List RangeView) → AllByRecursion P rs → AllByRecursion Q rs
all-weaker P Q w [] h = tt
all-weaker P Q w (r ∷ rs) h = (w r h.0, all-weaker P Q w rs h.1)

-- between what is said of each block by its index, and along the list
pub all-ranges : (P : RangeView → Type 0) (es : List Entry) → All (λ entry. P entry.range) es → AllByRecursion P (ranges_of es)
all-ranges P [] h = tt
all-ranges P (e ∷ es) h = (h 0 e (omega arith), all-ranges P es (λ k d lt. h (suc k) d (omega arith)))

pub all-entries : (P : RangeView → Type 0) (es : List Entry) → AllByRecursion P (ranges_of es) → All (λ entry. P entry.range) es
all-entries P [] h k d lt = absurd (omega arith)
all-entries P (e ∷ es) h zero d lt = h.0
all-entries P (e ∷ es) h (suc k) d lt = all-entries P es h.1 k d (omega arith)

pub set-read : (i : ℕ) (f : Entry → Entry) (es : List Entry) (x : Entry) → i < length es → x ≡ get_or es i x → slice_set es i (f x) ≡ changed_at i f es
set-read i f es x lt e = ap (λ y. slice_set es i (f y)) e ∙ set-changed i f es x lt

-- how the changed list reads
pub length-changed : (i : ℕ) (f : Entry → Entry) (es : List Entry) → length (changed_at i f es) ≡ length es
length-changed i f [] = refl
length-changed zero f (e ∷ es) = refl
length-changed (suc i) f (e ∷ es) = ap suc (length-changed i f es)

pub slice_get-changed_same : (i : ℕ) (f : Entry → Entry) (es : List Entry) → slice_get (changed_at i f es) i ≡ option_map f (slice_get es i)
slice_get-changed_same i f [] = refl
slice_get-changed_same zero f (e ∷ es) = refl
slice_get-changed_same (suc i) f (e ∷ es) = slice_get-changed_same i f es

pub slice_get-changed_other : (i k : ℕ) (f : Entry → Entry) (es : List Entry) → (k ≡ i → ⊥) → slice_get (changed_at i f es) k ≡ slice_get es k
slice_get-changed_other i k f [] ne = refl
slice_get-changed_other zero zero f (e ∷ es) ne = absurd (ne refl)
slice_get-changed_other zero (suc k) f (e ∷ es) ne = refl
slice_get-changed_other (suc i) zero f (e ∷ es) ne = refl
slice_get-changed_other (suc i) (suc k) f (e ∷ es) ne = slice_get-changed_other i k f es (λ q. ne (ap suc q))
