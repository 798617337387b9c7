-- One outlier is taken out: what is left, and which uses of spare pages end.
use Rattle.std.proofs.Common.{◌≡◌, ℕ, zero, suc, ◌+◌, ◌<◌, ◌≤◌, ◌%◌, ◌^◌, ◌↔◌, ◌⊎◌, Bool, true, false, cond, not, ◌&&◌, ◌==◌, nat_lt, nat_le, List, [], ◌∷◌, length, map, filter, slice_get, Some, None, IsSomeAnd, IsTrue, Contains, refl, sym, ap, ◌∙◌, subst, arith, inl, inr}
use Rattle.std.specs.List.{AllByRecursion, find}
use Rattle.std.specs.Option.{unwrap_or}
use Rattle.std.proofs.lemmas.Bool.{cases_Bool, false≢true}
use Rattle.std.proofs.lemmas.Bool.Decides.{nat_tests}
use Rattle.std.proofs.lemmas.Nat.{pow_pos}
use Rattle.mind_base.specs.Range.{RangeView, same_range}
use Rattle.mind_base.specs.declared.plans.MemoryPlan.{MemoryPlan}
use Rattle.mind_base.proofs.Callers.{same_range-refl, same_range-true}
use Rattle.range_translate.specs.Block.{block_lies_inside, comes_before}
use Rattle.range_translate.specs.Order.{IsOrdered}
use Rattle.range_translate.specs.Table.{TableView}
use Rattle.range_translate.specs.declared.outliers.Outlier.{Outlier}
use Rattle.spare_pool.specs.Pool.{PoolView, InRun}
use Rattle.range_migrate.specs.Run.{spare_pages, ArePools, IsFreeAt, first_spare_of, has_spare_page, users, FitsRun, AreRuns}
use Rattle.range_migrate.specs.Plan.{outside}
use Rattle.range_migrate.specs.Ending.{pages_given_up, Frees}
use Rattle.range_migrate.proofs.Counting.{filter-same, filter-filter, bit_of}
use Rattle.range_migrate.proofs.InOrder.{all-left}

pub all-at : (P : Outlier → Type 0) (xs : List Outlier) (o : Outlier) → AllByRecursion P xs → Contains xs o → P o
all-at P [] o h c = absurd (omega (arith, c.1))
all-at P (x ∷ xs) o h (zero, l, e) = subst P e h.0
all-at P (x ∷ xs) o h (suc k, l, e) = all-at P xs o h.1 (k, omega (arith, l), e)

-- the first that passes a test, or none
pub found : (test : Outlier → Bool) (xs : List Outlier) (o : Outlier) → find test xs ≡ Some o → Contains xs o × (test o ≡ true)
found test [] o e = absurd cc
found test (x ∷ xs) o e = step (test x) refl e (λ w. found test xs o w) where
  step : (b : Bool) → test x ≡ b → cond b (Some x) (find test xs) ≡ Some o → (find test xs ≡ Some o → Contains xs o × (test o ≡ true)) → Contains (x ∷ xs) o × (test o ≡ true)
  step true t w rest = let same : x ≡ o = cc in ((0, omega arith, same), subst (λ p. test p ≡ true) same t)
  step false t w rest = let f = rest w in ((suc f.0.0, omega (arith, f.0.1), f.0.2), f.1)

pub none_found : (test : Outlier → Bool) (xs : List Outlier) → find test xs ≡ None → AllByRecursion (λ x. test x ≡ false) xs
none_found test [] e = tt
none_found test (x ∷ xs) e = step (test x) refl e (λ w. none_found test xs w) where
  step : (b : Bool) → test x ≡ b → cond b (Some x) (find test xs) ≡ None → (find test xs ≡ None → AllByRecursion (λ x. test x ≡ false) xs) → AllByRecursion (λ x. test x ≡ false) (x ∷ xs)
  step true t w rest = absurd cc
  step false t w rest = (t, rest w)

pub all_left : (test : Outlier → Bool) (xs : List Outlier) → AllByRecursion (λ x. test x ≡ false) xs → filter (λ x. not (test x)) xs ≡ xs
all_left test [] h = refl
all_left test (x ∷ xs) h = ap (λ b. cond (not b) (x ∷ filter (λ y. not (test y)) xs) (filter (λ y. not (test y)) xs)) h.0 ∙ ap (λ ys. x ∷ ys) (all_left test xs h.1)

pub none_left : (test t : Outlier → Bool) (xs : List Outlier) → AllByRecursion (λ x. test x ≡ false) xs → length (filter (λ x. test x && t x) xs) ≡ 0
none_left test t [] h = refl
none_left test t (x ∷ xs) h = ap (λ b. length (cond (b && t x) (x ∷ filter (λ y. test y && t y) xs) (filter (λ y. test y && t y) xs))) h.0 ∙ none_left test t xs h.1

not_same-before : (a b : RangeView) → comes_before a b ≡ true → same_range a b ≡ false
not_same-before a b h = grind (arith, nat_tests)

not_same-after : (a b : RangeView) → comes_before a b ≡ true → same_range b a ≡ false
not_same-after a b h = grind (arith, nat_tests)

-- the outliers of other blocks
abbrev pub without : RangeView → List Outlier → List Outlier
without range outliers = filter (λ o. not (same_range o.range range)) outliers

later_stay : (x : Outlier) (xs : List Outlier) → AllByRecursion (λ p. IsTrue (comes_before x.range p.range)) xs → without x.range xs ≡ xs
later_stay x [] h = refl
later_stay x (y ∷ ys) h =
    ap (λ b. cond (not b) (y ∷ without x.range ys) (without x.range ys)) (not_same-after x.range y.range h.0) ∙ ap (λ zs. y ∷ zs) (later_stay x ys h.1)

-- one passes a test less where the one taken out does
pub removed-count : (t : Outlier → Bool) (o : Outlier) (xs : List Outlier) → IsOrdered xs → Contains xs o → length (filter t xs) ≡ length (filter t (without o.range xs)) + cond (t o) 1 0
removed-count t o [] ordered c = absurd (omega (arith, c.1))
removed-count t o (x ∷ xs) ordered (zero, l, e) =
    subst (λ p. length (filter t (x ∷ xs)) ≡ length (filter t (without p.range (x ∷ xs))) + cond (t p) 1 0) e
    (here (t x) (filter t xs) ∙ ap (λ ys. length (filter t ys) + cond (t x) 1 0) (sym (ap (λ b. cond (not b) (x ∷ without x.range xs) (without x.range xs)) (same_range-refl x.range) ∙ later_stay x xs ordered.0))) where
      here : (b : Bool) (ys : List Outlier) → length (cond b (x ∷ ys) ys) ≡ length ys + cond b 1 0
      here true ys = omega arith
      here false ys = omega arith
removed-count t o (x ∷ xs) ordered (suc k, l, e) =
    let c : Contains xs o = (k, omega (arith, l), e) in
    let other = not_same-before x.range o.range (all-at (λ p. IsTrue (comes_before x.range p.range)) xs o ordered.0 c) in
    there (t x) (filter t xs) (filter t (without o.range xs)) (cond (t o) 1 0) (removed-count t o xs ordered.1 c)
    ∙ ap (λ b. length (filter t (cond (not b) (x ∷ without o.range xs) (without o.range xs))) + cond (t o) 1 0) (sym other) where
      there : (b : Bool) (ys zs : List Outlier) (n : ℕ) → length ys ≡ length zs + n → length (cond b (x ∷ ys) ys) ≡ length (cond b (x ∷ zs) zs) + n
      there true ys zs n e = omega (arith, e)
      there false ys zs n e = e

same-inside : (a b r : RangeView) → same_range a b ≡ true → block_lies_inside b r ≡ true → block_lies_inside a r ≡ true
same-inside a b r s i = subst (λ (x : RangeView). block_lies_inside x r ≡ true) (sym (same_range-true a b s)) i

-- taking out one inside the block leaves the same outside it
pub same-outside : (range : RangeView) (o : Outlier) (xs : List Outlier) → block_lies_inside o.range range ≡ true → outside range (without o.range xs) ≡ outside range xs
same-outside range o xs inside =
    filter-filter (λ p. not (block_lies_inside p.range range)) (λ p. not (same_range p.range o.range)) xs
    ∙ filter-same (λ p. not (same_range p.range o.range) && not (block_lies_inside p.range range)) (λ p. not (block_lies_inside p.range range)) xs (λ p. same p) where
      both : (a b : Bool) → (a ≡ true → b ≡ true) → (not a && not b) ≡ not b
      both true true h = refl
      both true false h = absurd (false≢true (h refl))
      both false b h = refl

      same : (p : Outlier) → (not (same_range p.range o.range) && not (block_lies_inside p.range range)) ≡ not (block_lies_inside p.range range)
      same p = both (same_range p.range o.range) (block_lies_inside p.range range) (λ s. same-inside p.range o.range range s inside)

-- uses that end, and uses to come
pub page_removed : (Old New First : Type 0) (b : Bool) (g rest : ℕ) → g ≡ rest + cond b 1 0 → (New ↔ (Old ⊎ (b ≡ true))) → ((Old ⊎ (0 < g)) ↔ First) → ((New ⊎ (0 < rest)) ↔ First)
page_removed Old New First b g rest count new to_do = (λ w. to_do.0 (there w), λ f. back (to_do.1 f)) where
  taken : b ≡ true → 0 < g
  taken e = let one : bit_of b ≡ 1 = ap bit_of e in omega (arith, one, count)

  from_old : (Old ⊎ (b ≡ true)) → Old ⊎ (0 < g)
  from_old (inl o) = inl o
  from_old (inr e) = inr (taken e)

  there : (New ⊎ (0 < rest)) → Old ⊎ (0 < g)
  there (inl n) = from_old (new.0 n)
  there (inr l) = inr (omega (arith, l, count))

  split : 0 < g → New ⊎ (0 < rest)
  split l = elim (cases_Bool b) [
    | inl e ↦ inl (new.1 (inr e))
    | inr f ↦ (let none : bit_of b ≡ 0 = ap bit_of f in inr (omega (arith, l, count, none)))
  ]

  back : (Old ⊎ (0 < g)) → New ⊎ (0 < rest)
  back (inl o) = inl (new.1 (inl o))
  back (inr l) = split l

-- the runs of those that are left
pub runs-left : (homes : List MemoryPlan) (o : Outlier) (xs : List Outlier) (pools new_pools : List PoolView) → IsOrdered xs → Contains xs o → AreRuns homes xs pools →
    ((m page : ℕ) → IsFreeAt new_pools m page ↔ (IsFreeAt pools m page ⊎ IsTrue (has_spare_page homes m page o))) → AreRuns homes (without o.range xs) new_pools
runs-left homes o xs pools new_pools ordered there runs freed = record {
  runs = all-left (FitsRun homes) (λ p. not (same_range p.range o.range)) xs runs.runs;
  apart = λ m page. (let n = removed-count (has_spare_page homes m page) o xs ordered there in let u = runs.apart m page in omega (arith, n, u));
  taken = λ m page w. none m page ((freed m page).0 w);
} where
  none : (m page : ℕ) → (IsFreeAt pools m page ⊎ IsTrue (has_spare_page homes m page o)) → users homes (without o.range xs) m page ≡ 0
  none m page (inl f) = let n = removed-count (has_spare_page homes m page) o xs ordered there in let z = runs.taken m page f in omega (arith, n, z)
  none m page (inr t) =
      let n = removed-count (has_spare_page homes m page) o xs ordered there in
      let u = runs.apart m page in
      let one : bit_of (has_spare_page homes m page o) ≡ 1 = ap bit_of t in
      omega (arith, n, u, one)

-- a page of an outlier's run is used, so it is not free
pub used-taken : (homes : List MemoryPlan) (o : Outlier) (xs : List Outlier) (pools : List PoolView) (m page : ℕ) → IsOrdered xs → Contains xs o → AreRuns homes xs pools → has_spare_page homes m page o ≡ true → IsFreeAt pools m page → ⊥
used-taken homes o xs pools m page ordered there runs t f =
    let n = removed-count (has_spare_page homes m page) o xs ordered there in
    let z = runs.taken m page f in
    let one : bit_of (has_spare_page homes m page o) ≡ 1 = ap bit_of t in
    omega (arith, n, z, one)

-- the spare pages that a pool has, by the plans of the memory blades
pub pool_at : (homes : List MemoryPlan) (pools : List PoolView) (memory bound : ℕ) → ArePools homes pools → 0 < bound → bound ≤ spare_pages homes memory →
    (memory < length pools) × IsSomeAnd (slice_get pools memory) (λ pool. bound ≤ pool.pages)
pool_at homes pools memory bound same some within = found_at pools memory (subst (λ (ns : List ℕ). bound ≤ unwrap_or (slice_get ns memory) 0) (sym same) within) where
  found_at : (ps : List PoolView) (i : ℕ) → bound ≤ unwrap_or (slice_get (map (λ pool. pool.pages) ps) i) 0 → (i < length ps) × IsSomeAnd (slice_get ps i) (λ pool. bound ≤ pool.pages)
  found_at [] i l = absurd (omega (arith, some, l))
  found_at (p ∷ ps) zero l = (omega arith, l)
  found_at (p ∷ ps) (suc i) l = let f = found_at ps i l in (omega (arith, f.0), f.1)

-- A run that may be given back: it lies in the pool of its memory blade, and none of its pages is free.
pub record CanGive (pools : List PoolView) (memory first log : ℕ) : Type 0 where
  pub there : memory < length pools
  pub aligned : first % 2 ^ log ≡ 0
  pub inside : IsSomeAnd (slice_get pools memory) (λ pool. first + 2 ^ log ≤ pool.pages)
  pub taken : (page : ℕ) → InRun log first page → IsFreeAt pools memory page → ⊥

-- the pages that an outlier's run has
pub to_lies : (memory m first page size : ℕ) → memory ≡ m → first ≤ page → page < first + size → (memory == m && nat_le first page && nat_lt page (first + size)) ≡ true
to_lies memory m first page size e a b = grind (arith, nat_tests)

from_lies : (memory m first page size : ℕ) → (memory == m && nat_le first page && nat_lt page (first + size)) ≡ true → (memory ≡ m) × ((first ≤ page) × (page < first + size))
from_lies memory m first page size e = (grind (arith, nat_tests), (grind (arith, nat_tests), grind (arith, nat_tests)))

pub can-give : (homes : List MemoryPlan) (pools : List PoolView) (xs : List Outlier) (o : Outlier) (first : ℕ) → ArePools homes pools → IsOrdered xs → Contains xs o → AreRuns homes xs pools →
    first ≡ first_spare_of homes o → CanGive pools o.memory first o.range.log
can-give homes pools xs o first same ordered there runs e = subst (λ n. CanGive pools o.memory n o.range.log) (sym e) record {
  there = pool.0;
  aligned = fits.run.aligned;
  inside = pool.1;
  taken = λ page r w. used-taken homes o xs pools o.memory page ordered there runs (to_lies o.memory o.memory (first_spare_of homes o) page (2 ^ o.range.log) refl r.0 r.1) w;
} where
  fits : FitsRun homes o
  fits = all-at (FitsRun homes) xs o runs.runs there

  pool : (o.memory < length pools) × IsSomeAnd (slice_get pools o.memory) (λ pool. first_spare_of homes o + 2 ^ o.range.log ≤ pool.pages)
  pool = pool_at homes pools o.memory (first_spare_of homes o + 2 ^ o.range.log) same (let some = pow_pos o.range.log in omega (arith, some)) fits.run.inside

-- What is still to do while the outliers inside a block are taken out, one after another, is what was to do at first.
pub record Removal (range : RangeView) (first : TableView) (first_pools : List PoolView) (table : TableView) (pools : List PoolView) : Type 0 where
  pub homes : table.homes ≡ first.homes
  pub slots : table.slots ≡ first.slots
  pub left : outside range table.outliers ≡ outside range first.outliers
  pub freed : (m page : ℕ) → (IsFreeAt pools m page ⊎ (0 < pages_given_up first.homes range table.outliers m page)) ↔ (IsFreeAt first_pools m page ⊎ (0 < pages_given_up first.homes range first.outliers m page))
  pub one_each : ArePools first.homes pools
  pub runs : AreRuns first.homes table.outliers pools

pub removal-start : (range : RangeView) (table : TableView) (pools : List PoolView) → ArePools table.homes pools → AreRuns table.homes table.outliers pools → Removal range table pools table pools
removal-start range table pools same runs = record {
  homes = refl;
  slots = refl;
  left = refl;
  freed = λ m page. (λ w. w, λ w. w);
  one_each = same;
  runs = runs;
}

abbrev pub FreedBy : List MemoryPlan → Outlier → List PoolView → List PoolView → Type 0
FreedBy homes o pools new_pools = (m page : ℕ) → IsFreeAt new_pools m page ↔ (IsFreeAt pools m page ⊎ IsTrue (has_spare_page homes m page o))

pub freed-by : (homes : List MemoryPlan) (o : Outlier) (pools new_pools : List PoolView) (first : ℕ) → first ≡ first_spare_of homes o →
    ((m page : ℕ) → IsFreeAt new_pools m page ↔ (IsFreeAt pools m page ⊎ ((o.memory ≡ m) × InRun o.range.log first page))) → FreedBy homes o pools new_pools
freed-by homes o pools new_pools first e given m page = (λ w. there (g.0 w), λ w. g.1 (back w)) where
  g : IsFreeAt new_pools m page ↔ (IsFreeAt pools m page ⊎ ((o.memory ≡ m) × InRun o.range.log (first_spare_of homes o) page))
  g = subst (λ n. IsFreeAt new_pools m page ↔ (IsFreeAt pools m page ⊎ ((o.memory ≡ m) × InRun o.range.log n page))) e (given m page)

  there : (IsFreeAt pools m page ⊎ ((o.memory ≡ m) × InRun o.range.log (first_spare_of homes o) page)) → IsFreeAt pools m page ⊎ IsTrue (has_spare_page homes m page o)
  there (inl w) = inl w
  there (inr r) = inr (to_lies o.memory m (first_spare_of homes o) page (2 ^ o.range.log) r.0 r.1.0 r.1.1)

  back : (IsFreeAt pools m page ⊎ IsTrue (has_spare_page homes m page o)) → IsFreeAt pools m page ⊎ ((o.memory ≡ m) × InRun o.range.log (first_spare_of homes o) page)
  back (inl w) = inl w
  back (inr t) = inr (from_lies o.memory m (first_spare_of homes o) page (2 ^ o.range.log) t)

pub removal-step : (range : RangeView) (first : TableView) (first_pools : List PoolView) (table new_table : TableView) (pools new_pools : List PoolView) (o : Outlier) → Removal range first first_pools table pools →
    IsOrdered table.outliers → find (λ p. block_lies_inside p.range range) table.outliers ≡ Some o → new_table ≡ record table { outliers = without o.range table.outliers } →
    FreedBy table.homes o pools new_pools → ArePools table.homes new_pools → Removal range first first_pools new_table new_pools
removal-step range first first_pools table new_table pools new_pools o r ordered e made freed_here same_here =
    subst (λ t. Removal range first first_pools t new_pools) (sym made) record {
      homes = r.homes;
      slots = r.slots;
      left = same-outside range o table.outliers f.1 ∙ r.left;
      freed = λ m page. page_removed (IsFreeAt pools m page) (IsFreeAt new_pools m page) (IsFreeAt first_pools m page ⊎ (0 < pages_given_up first.homes range first.outliers m page))
          (has_spare_page first.homes m page o) (pages_given_up first.homes range table.outliers m page) (pages_given_up first.homes range (without o.range table.outliers) m page)
          (removed-count (λ p. block_lies_inside p.range range && has_spare_page first.homes m page p) o table.outliers ordered f.0
          ∙ ap (λ b. pages_given_up first.homes range (without o.range table.outliers) m page + cond (b && has_spare_page first.homes m page o) 1 0) f.1)
          (freed m page) (r.freed m page);
      one_each = subst (λ hs. ArePools hs new_pools) r.homes same_here;
      runs = runs-left first.homes o table.outliers pools new_pools ordered f.0 r.runs freed;
    } where
      f : Contains table.outliers o × (block_lies_inside o.range range ≡ true)
      f = found (λ p. block_lies_inside p.range range) table.outliers o e

      freed : FreedBy first.homes o pools new_pools
      freed = subst (λ hs. FreedBy hs o pools new_pools) r.homes freed_here

pub removal-end : (range : RangeView) (first : TableView) (first_pools : List PoolView) (table : TableView) (pools : List PoolView) → Removal range first first_pools table pools →
    find (λ p. block_lies_inside p.range range) table.outliers ≡ None →
    (table ≡ record first { outliers = outside range first.outliers }) × Frees first.homes range first.outliers first_pools pools
removal-end range first first_pools table pools r e = (
  ap (λ hs. let t : TableView = record { homes = hs; slots = table.slots; outliers = table.outliers } in t) r.homes
      ∙ ap (λ n. let t : TableView = record { homes = first.homes; slots = n; outliers = table.outliers } in t) r.slots
      ∙ ap (λ os. let t : TableView = record { homes = first.homes; slots = first.slots; outliers = os } in t) (sym (all_left (λ p. block_lies_inside p.range range) table.outliers none) ∙ r.left),
  λ m page. (λ w. (r.freed m page).0 (inl w), λ w. only m page ((r.freed m page).1 w)),
) where
  none : AllByRecursion (λ p. block_lies_inside p.range range ≡ false) table.outliers
  none = none_found (λ p. block_lies_inside p.range range) table.outliers e

  only : (m page : ℕ) → (IsFreeAt pools m page ⊎ (0 < pages_given_up first.homes range table.outliers m page)) → IsFreeAt pools m page
  only m page (inl w) = w
  only m page (inr l) = let z = none_left (λ p. block_lies_inside p.range range) (has_spare_page first.homes m page) table.outliers none in absurd (omega (arith, l, z))

-- there is one outlier less
pub fewer-left : (o : Outlier) (xs : List Outlier) → IsOrdered xs → Contains xs o → length (without o.range xs) < length xs
fewer-left o xs ordered there = let n = removed-count (λ _. true) o xs ordered there in omega (arith, n, all (without o.range xs), all xs) where
  all : (ys : List Outlier) → length (filter (λ _. true) ys) ≡ length ys
  all [] = refl
  all (y ∷ ys) = ap suc (all ys)
