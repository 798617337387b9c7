-- What is seen of the entries of a directory and of requests when one of them changes.
use Rattle.std.proofs.Common.{◌≡◌, refl, sym, ◌∙◌, ap, subst, ℕ, Bool, true, false, List, [], ◌∷◌, map, insert, remove, zero, suc, arith, Option, Some, None}
use Rattle.std.specs.Prelude.{if◌then◌else◌, slice_get, position, option_map, option_and_then}
use Rattle.std.specs.List.{AllByRecursion}
use Rattle.std.proofs.lemmas.Option.{none-some, same_Some}
use Rattle.std.proofs.lemmas.Bool.Decides.{nat_tests}
use Rattle.mind_base.specs.Page.{PageView}
use Rattle.mind_base.specs.Range.{RangeView, in_range}
use Rattle.region_directory.specs.Block.{AreBlocksApart}
use Rattle.region_directory.specs.Entry.{changed_at}
use Rattle.region_directory.specs.declared.entries.Entry.{Entry}
use Rattle.region_directory.proofs.Callers.{has-from_test}
use Rattle.switch_core.specs.Treating.{entry_for}
use Rattle.switch_core.proofs.Callers.{all-at, all-insert, all-remove}
use Rattle.coherence.specs.World.{Region, put_range}
use Rattle.rack_core.specs.Seen.{region_of, region_at}
use Rattle.rack_core.specs.SwitchMoves.{AreEntriesApart}
use Rattle.rack_core.proofs.Lists.Parts.{all-same, all-map}

-- ---- all elements of a list

pub all-changed : (P : Entry → Type 0) (i : ℕ) (f : Entry → Entry) (es : List Entry) → ((e : Entry) → slice_get es i ≡ Some e → P e → P (f e)) → AllByRecursion P es → AllByRecursion P (changed_at i f es)
all-changed P i f [] k h = tt
all-changed P zero f (e ∷ es) k h = (k e refl h.0, h.1)
all-changed P (suc i) f (e ∷ es) k h = (h.0, all-changed P i f es k h.1)

-- ---- entries stay apart

pub apart-changed : (i : ℕ) (f : Entry → Entry) (es : List Entry) → ((e : Entry) → (f e).range ≡ e.range) → AreEntriesApart es → AreEntriesApart (changed_at i f es)
apart-changed i f [] k h = tt
apart-changed zero f (e ∷ es) k h = (all-same (λ l. AreBlocksApart e.range l.range) (λ l. AreBlocksApart (f e).range l.range) (λ l a. subst (λ r. AreBlocksApart r l.range) (sym (k e)) a) es h.0, h.1)
apart-changed (suc i) f (e ∷ es) k h =
    (all-changed (λ l. AreBlocksApart e.range l.range) i f es (λ l at a. subst (AreBlocksApart e.range) (sym (k l)) a) h.0, apart-changed i f es k h.1)

pub apart-map : (f : Entry → Entry) (es : List Entry) → ((e : Entry) → (f e).range ≡ e.range) → AreEntriesApart es → AreEntriesApart (map f es)
apart-map f [] k h = tt
apart-map f (e ∷ es) k h = (
  all-same (λ l. AreBlocksApart e.range l.range) (λ l. AreBlocksApart (f e).range l.range) (λ l a. subst (λ r. AreBlocksApart r l.range) (sym (k e)) a) (map f es)
      (all-map (λ l. AreBlocksApart e.range l.range) f es (λ l a. subst (AreBlocksApart e.range) (sym (k l)) a) h.0),
  apart-map f es k h.1,
)

pub apart-remove : (es : List Entry) (i : ℕ) → AreEntriesApart es → AreEntriesApart (remove es i)
apart-remove [] zero h = tt
apart-remove [] (suc i) h = tt
apart-remove (e ∷ es) zero h = h.1
apart-remove (e ∷ es) (suc i) h = (all-remove (λ l. AreBlocksApart e.range l.range) es i h.0, apart-remove es i h.1)

-- an entry that meets none of the others
abbrev pub MeetsNone : RangeView → List Entry → Type 0
MeetsNone range es = AllByRecursion (λ l. AreBlocksApart l.range range) es

pub apart-insert : (es : List Entry) (k : ℕ) (x : Entry) → MeetsNone x.range es → AreEntriesApart es → AreEntriesApart (insert es k x)
apart-insert [] zero x free h = (tt, tt)
apart-insert [] (suc k) x free h = (tt, tt)
apart-insert (e ∷ es) zero x free h = (all-same (λ l. AreBlocksApart l.range x.range) (λ l. AreBlocksApart x.range l.range) (λ l a p q r. a p r q) (e ∷ es) free, h)
apart-insert (e ∷ es) (suc k) x free h = (all-insert (λ l. AreBlocksApart e.range l.range) es k x h.0 free.0, apart-insert es k x free.1 h.1)

-- ---- the first entry with a page

abbrev pub first_region : List Entry → PageView → Option Region
first_region [] page = None
first_region (e ∷ es) page = if in_range e.range page then Some (region_of e) else first_region es page

pub position-here : {X : Type 0} (p : X → Bool) (x : X) (xs : List X) → p x ≡ true → position p (x ∷ xs) ≡ Some 0
position-here p x xs e = rw e (grind (arith, nat_tests))

pub position-there : {X : Type 0} (p : X → Bool) (x : X) (xs : List X) → p x ≡ false → position p (x ∷ xs) ≡ option_map suc (position p xs)
position-there p x xs e = rw e (grind (arith, nat_tests))

pub region_at-first : (es : List Entry) (page : PageView) → region_at es page ≡ first_region es page
region_at-first [] page = refl
region_at-first (e ∷ es) page = by (in_range e.range page) refl (region_at-first es page) where
  step : (o : Option ℕ) → option_and_then (λ i. option_map region_of (slice_get (e ∷ es) i)) (option_map suc o) ≡ option_and_then (λ i. option_map region_of (slice_get es i)) o
  step None = refl
  step (Some i) = refl

  by : (b : Bool) → in_range e.range page ≡ b → region_at es page ≡ first_region es page → region_at (e ∷ es) page ≡ (if b then Some (region_of e) else first_region es page)
  by true t rest = ap (option_and_then (λ i. option_map region_of (slice_get (e ∷ es) i))) (position-here (λ x. in_range x.range page) e es t)
  by false t rest =
      ap (option_and_then (λ i. option_map region_of (slice_get (e ∷ es) i))) (position-there (λ x. in_range x.range page) e es t)
      ∙ step (entry_for page es) ∙ rest

-- blocks that are apart do not both have a page
pub not_both : (a b : RangeView) (page : PageView) → AreBlocksApart a b → in_range a page ≡ true → in_range b page ≡ true → ⊥
not_both a b page h s t = h page (has-from_test a page s) (has-from_test b page t)

pub first-none : (es : List Entry) (range : RangeView) (page : PageView) → AllByRecursion (λ l. AreBlocksApart range l.range) es → in_range range page ≡ true → first_region es page ≡ None
first-none [] range page h t = refl
first-none (e ∷ es) range page h t = by (in_range e.range page) refl (first-none es range page h.1 t) where
  by : (b : Bool) → in_range e.range page ≡ b → first_region es page ≡ None → (if b then Some (region_of e) else first_region es page) ≡ None
  by true s rest = absurd (not_both range e.range page h.0 t s)
  by false s rest = rest

pub first-got : (es : List Entry) (i : ℕ) (e : Entry) (page : PageView) → AreEntriesApart es → slice_get es i ≡ Some e → in_range e.range page ≡ true → first_region es page ≡ Some (region_of e)
first-got [] i e page h at t = absurd (none-some e at)
first-got (x ∷ es) zero e page h at t =
    let same = same_Some x e at in
    ap (λ b. if b then Some (region_of x) else first_region es page) (subst (λ y. in_range y.range page ≡ true) (sym same) t) ∙ ap (λ y. Some (region_of y)) same
first-got (x ∷ es) (suc i) e page h at t = by (in_range x.range page) refl (first-got es i e page h.1 at t) where
  by : (b : Bool) → in_range x.range page ≡ b → first_region es page ≡ Some (region_of e) → (if b then Some (region_of x) else first_region es page) ≡ Some (region_of e)
  by true s rest = absurd (not_both x.range e.range page (all-at (λ l. AreBlocksApart x.range l.range) es i e h.0 at) s t)
  by false s rest = rest

-- one entry changes, and keeps its block
pub first-changed : (i : ℕ) (f : Entry → Entry) (es : List Entry) (e : Entry) (page : PageView) → ((x : Entry) → (f x).range ≡ x.range) → AreEntriesApart es → slice_get es i ≡ Some e
    → first_region (changed_at i f es) page ≡ put_range e.range (Some (region_of (f e))) (first_region es) page
first-changed i f [] e page k h at = absurd (none-some e at)
first-changed zero f (x ∷ es) e page k h at =
    subst (λ y. first_region (f x ∷ es) page ≡ put_range y.range (Some (region_of (f y))) (first_region (x ∷ es)) page) (same_Some x e at)
    (subst (λ r. (if in_range r page then Some (region_of (f x)) else first_region es page) ≡ put_range x.range (Some (region_of (f x))) (first_region (x ∷ es)) page) (sym (k x))
    (by (in_range x.range page) refl)) where
      by : (b : Bool) → in_range x.range page ≡ b
          → (if b then Some (region_of (f x)) else first_region es page) ≡ (if b then Some (region_of (f x)) else (if b then Some (region_of x) else first_region es page))
      by true t = refl
      by false t = refl
first-changed (suc i) f (x ∷ es) e page k h at = by (in_range x.range page) (in_range e.range page) refl refl (first-changed i f es e page k h.1 at) where
  by : (b c : Bool) → in_range x.range page ≡ b → in_range e.range page ≡ c
      → first_region (changed_at i f es) page ≡ (if c then Some (region_of (f e)) else first_region es page)
      → (if b then Some (region_of x) else first_region (changed_at i f es) page) ≡ (if c then Some (region_of (f e)) else (if b then Some (region_of x) else first_region es page))
  by true true s t rest = absurd (not_both x.range e.range page (all-at (λ l. AreBlocksApart x.range l.range) es i e h.0 at) s t)
  by true false s t rest = refl
  by false c s t rest = rest

-- an entry is put in
pub first-insert : (es : List Entry) (k : ℕ) (x : Entry) (page : PageView) → MeetsNone x.range es
    → first_region (insert es k x) page ≡ put_range x.range (Some (region_of x)) (first_region es) page
first-insert [] zero x page free = refl
first-insert [] (suc k) x page free = refl
first-insert (e ∷ es) zero x page free = refl
first-insert (e ∷ es) (suc k) x page free = by (in_range e.range page) (in_range x.range page) refl refl (first-insert es k x page free.1) where
  by : (b c : Bool) → in_range e.range page ≡ b → in_range x.range page ≡ c
      → first_region (insert es k x) page ≡ (if c then Some (region_of x) else first_region es page)
      → (if b then Some (region_of e) else first_region (insert es k x) page) ≡ (if c then Some (region_of x) else (if b then Some (region_of e) else first_region es page))
  by true true s t rest = absurd (not_both e.range x.range page free.0 s t)
  by true false s t rest = refl
  by false c s t rest = rest

-- an entry is taken out
pub first-remove : (es : List Entry) (i : ℕ) (e : Entry) (page : PageView) → AreEntriesApart es → slice_get es i ≡ Some e
    → first_region (remove es i) page ≡ put_range e.range None (first_region es) page
first-remove [] i e page h at = absurd (none-some e at)
first-remove (x ∷ es) zero e page h at =
    subst (λ y. first_region es page ≡ put_range y.range None (first_region (x ∷ es)) page) (same_Some x e at) (by (in_range x.range page) refl) where
      by : (b : Bool) → in_range x.range page ≡ b → first_region es page ≡ (if b then None else (if b then Some (region_of x) else first_region es page))
      by true t = first-none es x.range page h.0 t
      by false t = refl
first-remove (x ∷ es) (suc i) e page h at = by (in_range x.range page) (in_range e.range page) refl refl (first-remove es i e page h.1 at) where
  by : (b c : Bool) → in_range x.range page ≡ b → in_range e.range page ≡ c
      → first_region (remove es i) page ≡ (if c then None else first_region es page)
      → (if b then Some (region_of x) else first_region (remove es i) page) ≡ (if c then None else (if b then Some (region_of x) else first_region es page))
  by true true s t rest = absurd (not_both x.range e.range page (all-at (λ l. AreBlocksApart x.range l.range) es i e h.0 at) s t)
  by true false s t rest = refl
  by false c s t rest = rest

-- every entry changes, and keeps its block
pub first-map : (f : Entry → Entry) (g : Region → Region) (es : List Entry) (page : PageView) → ((x : Entry) → (f x).range ≡ x.range) → ((x : Entry) → region_of (f x) ≡ g (region_of x))
    → first_region (map f es) page ≡ option_map g (first_region es page)
first-map f g [] page k same = refl
first-map f g (x ∷ es) page k same =
    ap (λ r. if in_range r page then Some (region_of (f x)) else first_region (map f es) page) (k x)
    ∙ by (in_range x.range page) (first-map f g es page k same) where
      by : (b : Bool) → first_region (map f es) page ≡ option_map g (first_region es page)
          → (if b then Some (region_of (f x)) else first_region (map f es) page) ≡ option_map g (if b then Some (region_of x) else first_region es page)
      by true rest = ap Some (same x)
      by false rest = rest
