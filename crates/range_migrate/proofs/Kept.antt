-- What is true of outliers and pools after every list of migrates.
use Rattle.std.proofs.Common.{◌≡◌, ◌≢◌, ℕ, zero, suc, ◌+◌, ◌-◌, ◌<◌, ◌≤◌, ◌%◌, ◌^◌, ◌↔◌, Bool, true, false, cond, not, ◌&&◌, ◌||◌, ◌==◌, nat_lt, nat_le, List, [], ◌∷◌, length, map, filter, Option, Some, None, is_some, Result, Ok, Err, refl, sym, ap, ◌∙◌, subst, arith, inl, inr}
use Rattle.std.specs.List.{AllByRecursion, list_any}
use Rattle.std.specs.Option.{option_map}
use Rattle.std.proofs.lemmas.Bool.{cases_Bool, cases_lt, false≢true}
use Rattle.std.proofs.lemmas.Bool.Decides.{nat_tests}
use Rattle.std.proofs.lemmas.Nat.{pow_pos}
use Rattle.std.proofs.lemmas.List.Elements.{All-from_recursion, recursion_from_All}
use Rattle.mind_base.specs.Page.{PageView}
use Rattle.mind_base.specs.Range.{RangeView, InRange, in_range}
use Rattle.mind_base.specs.Home.{home_of}
use Rattle.mind_base.specs.declared.commands.Outcome.{Outcome}
use Rattle.mind_base.specs.declared.plans.MemoryPlan.{MemoryPlan}
use Rattle.range_translate.specs.Block.{block_lies_inside, encloses}
use Rattle.range_translate.specs.Order.{IsOrdered, put_in_order}
use Rattle.range_translate.specs.Place.{physical_place, smallest_of, place_or_home, place_in_outlier, IsSmallest}
use Rattle.range_translate.specs.Table.{IsTable}
use Rattle.range_translate.specs.declared.outliers.Outlier.{Outlier}
use Rattle.range_translate.proofs.Callers.{ordered-filter, moved, at_home, in_range-has}
use Rattle.spare_pool.specs.Pool.{PoolView, all_free}
use Rattle.spare_pool.proofs.Callers.{in_range as in_list, range_has}
use Rattle.range_migrate.specs.Run.{home_pages, spare_pages, IsFreeAt, first_spare_of, has_spare_page, users, FitsRun, AreRuns}
use Rattle.range_migrate.specs.Plan.{each_page, is_at, way_of, outside, IsFreeRunAt, new_move, EndsBy, Plans, Uses, Takes, wanted_place}
use Rattle.range_migrate.specs.Ending.{outlier_of, pages_given_up, Frees}
use Rattle.range_migrate.specs.Accepted.{place_after, moves_in_force, first_of_run, has_spare, IsFreeAfter, others_in_force, EndsAfter}
use Rattle.range_migrate.specs.Migrates.{Migrate, accepted_in, accepted, table_with, Ended, Reached}
use Rattle.range_migrate.specs.declared.moves.Move.{Move}
use Rattle.range_migrate.proofs.Counting.{filter-same, filter-filter, parts_of_test, any-count}
use Rattle.range_migrate.proofs.InOrder.{IsNew, put-count, put-smallest, left-smallest, all-left, all-put, all-passing, all-map, put-there}
use Rattle.range_migrate.proofs.Nested.{IsBlock, inside-by_size}
use Rattle.range_migrate.proofs.PageSteps.{page_step, lies_to, lies_from, used-inside}
use Rattle.range_migrate.proofs.PlanFacts.{each_page-at, accepts, way-same, ends-along}

-- a move in force as an outlier
abbrev pub as_outlier : List MemoryPlan → Move → Outlier
as_outlier homes move = outlier_of homes move (first_of_run move)

-- the outliers are the moves in force, in another order: as many pass each test
abbrev pub AreInForce : List MemoryPlan → List Move → List Outlier → Type 0
AreInForce homes moves outliers = (t : Outlier → Bool) → length (filter t outliers) ≡ length (filter (λ m. t (as_outlier homes m)) (moves_in_force moves))

pub record Kept (homes : List MemoryPlan) (slots : ℕ) (moves : List Move) (outliers : List Outlier) (pools : List PoolView) : Type 0 where
  pub table : IsTable (table_with homes slots outliers)
  pub places : (page : PageView) → physical_place homes outliers page ≡ place_after homes moves page
  pub same : AreInForce homes moves outliers
  pub runs : AreRuns homes outliers pools
  pub free : (memory page : ℕ) → IsFreeAt pools memory page ↔ ((page < spare_pages homes memory) × (users homes outliers memory page ≡ 0))

-- At the start.
free_at_first : (homes : List MemoryPlan) (memory page : ℕ) → IsFreeAt (map (λ m. all_free m.spare) homes) memory page ↔ ((page < spare_pages homes memory) × (users homes [] memory page ≡ 0))
free_at_first [] memory page = (λ w. absurd w, λ w. absurd (omega (arith, w.0)))
free_at_first (m ∷ homes) zero page = (λ w. (let l = (in_list 0 m.spare page w).1 in omega (arith, l), refl), λ w. range_has 0 m.spare page (omega arith) (omega (arith, w.0)))
free_at_first (m ∷ homes) (suc memory) page = free_at_first homes memory page

at_first : (homes : List MemoryPlan) (slots : ℕ) → IsTable (table_with homes slots []) → Kept homes slots [] [] (map (λ m. all_free m.spare) homes)
at_first homes slots table = record {
  table = table;
  places = λ page. at_home (table_with homes slots []) page (λ k d l. absurd (omega (arith, l)));
  same = λ t. refl;
  runs = record { runs = tt; apart = λ memory page. omega arith; taken = λ memory page w. refl };
  free = free_at_first homes;
}

-- Places.
not_in_inside : (a r : RangeView) (page : PageView) → in_range r page ≡ false → not (block_lies_inside a r) ≡ false → in_range a page ≡ false
not_in_inside a r page f e = grind (arith, nat_tests)

elsewhere : (homes : List MemoryPlan) (range : RangeView) (page : PageView) (outliers : List Outlier) → in_range range page ≡ false → smallest_of (outside range outliers) page ≡ smallest_of outliers page
elsewhere homes range page outliers f = left-smallest (λ o. not (block_lies_inside o.range range)) page outliers (each outliers) where
  each : (xs : List Outlier) → AllByRecursion (λ x. not (block_lies_inside x.range range) ≡ false → in_range x.range page ≡ false) xs
  each [] = tt
  each (x ∷ xs) = (λ e. not_in_inside x.range range page f e, each xs)

is_inside-itself : (r : RangeView) → block_lies_inside r r ≡ true
is_inside-itself r = grind (arith, nat_tests)

not_false : (b : Bool) → not b ≡ true → b ≡ true → ⊥
not_false true h e = false≢true h
not_false false h e = false≢true e

pub new_outside : (range : RangeView) (outliers : List Outlier) → IsNew range (outside range outliers)
new_outside range outliers = all-passing (λ o. o.range ≢ range) (λ o. not (block_lies_inside o.range range)) outliers (each outliers) where
  each : (xs : List Outlier) → AllByRecursion (λ x. not (block_lies_inside x.range range) ≡ true → x.range ≢ range) xs
  each [] = tt
  each (x ∷ xs) = (λ h e. not_false (block_lies_inside x.range range) h (subst (λ (r : RangeView). block_lies_inside r range ≡ true) (sym e) (is_inside-itself range)), each xs)

-- an outlier that is left and has a page of the block is larger
abbrev Larger : RangeView → PageView → Outlier → Type 0
Larger range page o = InRange o.range page → (range.log < o.range.log) × (block_lies_inside range o.range ≡ true)

larger : (range : RangeView) (page : PageView) (outliers : List Outlier) → IsBlock range → InRange range page → AllByRecursion (λ o. IsBlock o.range) outliers → AllByRecursion (Larger range page) (outside range outliers)
larger range page outliers block has blocks = all-passing (Larger range page) (λ o. not (block_lies_inside o.range range)) outliers (each outliers blocks) where
  one : (o : Outlier) → IsBlock o.range → not (block_lies_inside o.range range) ≡ true → Larger range page o
  one o b out h = elim (cases_lt range.log o.range.log) [
    | inl l ↦ (l, inside-by_size range o.range page block b has h (omega (arith, l)))
    | inr l ↦ absurd (not_false (block_lies_inside o.range range) out (inside-by_size o.range range page b block h has l))
  ]

  each : (xs : List Outlier) → AllByRecursion (λ o. IsBlock o.range) xs → AllByRecursion (λ x. not (block_lies_inside x.range range) ≡ true → Larger range page x) xs
  each [] h = tt
  each (x ∷ xs) h = (one x h.0, each xs h.1)

option_map-some : {X Y : Type 0} (y : Y) (o : Option X) → is_some o ≡ true → option_map (λ x. y) o ≡ Some y
option_map-some y None e = absurd (false≢true e)
option_map-some y (Some x) e = refl

-- in the block of a move with a run
place-by_run : (homes : List MemoryPlan) (slots : ℕ) (outliers : List Outlier) (move : Move) (first : ℕ) (page : PageView) → IsBlock move.range →
    AllByRecursion (λ o. IsBlock o.range) outliers → IsTable (table_with homes slots (put_in_order (outlier_of homes move first) (outside move.range outliers))) →
    is_some (home_of homes page) ≡ true → InRange move.range page →
    physical_place homes (put_in_order (outlier_of homes move first) (outside move.range outliers)) page ≡ wanted_place homes move page (Some first)
place-by_run homes slots outliers move first page block blocks table placed has =
    let o = outlier_of homes move first in
    let left = outside move.range outliers in
    let least : AllByRecursion (λ p. InRange p.range page → o.range.log ≤ p.range.log) left =
    all-map (Larger move.range page) (λ p. InRange p.range page → o.range.log ≤ p.range.log) left (λ p w h. let l = (w h).0 in omega (arith, l)) (larger move.range page outliers block has blocks) in
    let small : IsSmallest (put_in_order o left) page o = record {
      member = put-there o left;
      has = has;
      least = All-from_recursion (λ p. InRange p.range page → o.range.log ≤ p.range.log) (put_in_order o left)
          (all-put (λ p. InRange p.range page → o.range.log ≤ p.range.log) o left (λ h. omega arith) least);
    } in
    moved (table_with homes slots (put_in_order o left)) page o table small ∙ option_map-some (place_in_outlier o page) (home_of homes page) placed

-- in the block of a move home, which no larger block has
less : (a b : ℕ) → a < b → nat_lt a b ≡ true
less a b l = grind (arith, nat_tests)

none_larger : (range : RangeView) (page : PageView) (xs : List Outlier) → list_any (λ o. encloses o.range range) xs ≡ false → AllByRecursion (Larger range page) (outside range xs) → AllByRecursion (λ o. InRange o.range page → ⊥) (outside range xs)
none_larger range page [] e h = tt
none_larger range page (x ∷ xs) e h = step (not (block_lies_inside x.range range)) (encloses x.range range) refl e h (λ g w. none_larger range page xs g w) where
  encloses-larger : Larger range page x → encloses x.range range ≡ false → InRange x.range page → ⊥
  encloses-larger w f has = let l = (w has).0 in let i = (w has).1 in false≢true (sym f ∙ both i l) where
    both : block_lies_inside range x.range ≡ true → range.log < x.range.log → encloses x.range range ≡ true
    both i l = ap (λ b. b && nat_lt range.log x.range.log) i ∙ less range.log x.range.log l

  step : (b c : Bool) → encloses x.range range ≡ c → (c || list_any (λ o. encloses o.range range) xs) ≡ false →
      AllByRecursion (Larger range page) (cond b (x ∷ outside range xs) (outside range xs)) →
      (list_any (λ o. encloses o.range range) xs ≡ false → AllByRecursion (Larger range page) (outside range xs) → AllByRecursion (λ o. InRange o.range page → ⊥) (outside range xs)) → AllByRecursion (λ o. InRange o.range page → ⊥) (cond b (x ∷ outside range xs) (outside range xs))
  step b true f g w rest = absurd (false≢true (sym g))
  step true false f g w rest = (encloses-larger w.0 f, rest g w.1)
  step false false f g w rest = rest g w

-- what the latest move decides
by_latest : (homes : List MemoryPlan) (moves : List Move) (move : Move) (page : PageView) (o : Option (ℕ × ℕ)) →
    (in_range move.range page ≡ true → o ≡ wanted_place homes move page move.run) → (in_range move.range page ≡ false → o ≡ place_after homes moves page) → o ≡ place_after homes (move ∷ moves) page
by_latest homes moves move page o here there = elim (cases_Bool (in_range move.range page)) [
  | inl t ↦ here t ∙ sym (ap (λ b. cond b (wanted_place homes move page move.run) (place_after homes moves page)) t)
  | inr f ↦ there f ∙ sym (ap (λ b. cond b (wanted_place homes move page move.run) (place_after homes moves page)) f)
]

-- Moves in force.
len-cons : {X Y : Type 0} (b : Bool) (x : X) (xs : List X) (y : Y) (ys : List Y) → length xs ≡ length ys → length (cond b (x ∷ xs) xs) ≡ length (cond b (y ∷ ys) ys)
len-cons true x xs y ys e = omega (arith, e)
len-cons false x xs y ys e = e

left_in_force : (homes : List MemoryPlan) (moves : List Move) (outliers : List Outlier) (range : RangeView) (t : Outlier → Bool) → AreInForce homes moves outliers →
    length (filter t (outside range outliers)) ≡ length (filter (λ m. t (as_outlier homes m)) (filter (λ e. not (block_lies_inside e.range range)) (moves_in_force moves)))
left_in_force homes moves outliers range t same =
    ap length (filter-filter t (λ o. not (block_lies_inside o.range range)) outliers)
    ∙ same (λ o. not (block_lies_inside o.range range) && t o)
    ∙ sym (ap length (filter-filter (λ (m : Move). t (as_outlier homes m)) (λ e. not (block_lies_inside e.range range)) (moves_in_force moves)))

-- Uses of spare pages.
abbrev PageKept : List MemoryPlan → List Outlier → List PoolView → ℕ → ℕ → Type 0
PageKept homes outliers pools memory page =
    (users homes outliers memory page ≤ 1) × (IsFreeAt pools memory page ↔ ((page < spare_pages homes memory) × (users homes outliers memory page ≡ 0)))

pub left_users : (homes : List MemoryPlan) (range : RangeView) (outliers : List Outlier) (memory page : ℕ) →
    users homes (outside range outliers) memory page + pages_given_up homes range outliers memory page ≡ users homes outliers memory page
left_users homes range outliers memory page =
    ap (λ (xs : List Outlier). length xs + pages_given_up homes range outliers memory page) (filter-filter (has_spare_page homes memory page) (λ o. not (block_lies_inside o.range range)) outliers)
    ∙ parts_of_test (has_spare_page homes memory page) (λ o. block_lies_inside o.range range) outliers

runs_from : (homes : List MemoryPlan) (outliers : List Outlier) (pools : List PoolView) → AllByRecursion (FitsRun homes) outliers → ((memory page : ℕ) → PageKept homes outliers pools memory page) → AreRuns homes outliers pools
runs_from homes outliers pools fits pages = record {
  runs = fits;
  apart = λ memory page. (pages memory page).0;
  taken = λ memory page w. ((pages memory page).1.0 w).1;
}

-- a move home
homeward : (homes : List MemoryPlan) (slots : ℕ) (moves : List Move) (outliers new_outliers : List Outlier) (pools between new_pools : List PoolView) (range : RangeView) (memory : ℕ) →
    Kept homes slots moves outliers pools → IsBlock range → list_any (λ o. encloses o.range range) outliers ≡ false →
    Takes pools (Ok (new_move range memory None)) between → new_outliers ≡ outside range outliers → Frees homes range outliers between new_pools →
    IsTable (table_with homes slots new_outliers) → Kept homes slots (new_move range memory None ∷ moves) new_outliers new_pools
homeward homes slots moves outliers new_outliers pools between new_pools range memory k block enclosed taken e frees table =
    subst (λ os. Kept homes slots (new_move range memory None ∷ moves) os new_pools) (sym e) record {
      table = left_table;
      places = λ page. by_latest homes moves (new_move range memory None) page (physical_place homes (outside range outliers) page)
          (λ t. at_home (table_with homes slots (outside range outliers)) page (All-from_recursion (λ (o : Outlier). InRange o.range page → ⊥) (outside range outliers)
          (none_larger range page outliers enclosed (larger range page outliers block (in_range-has range page t) blocks))))
          (λ f. ap (λ s. option_map (place_or_home s page) (home_of homes page)) (elsewhere homes range page outliers f) ∙ k.places page);
      same = λ t. left_in_force homes moves outliers range t k.same;
      runs = runs_from homes (outside range outliers) new_pools (all-left (FitsRun homes) (λ o. not (block_lies_inside o.range range)) outliers k.runs.runs) pages;
      free = λ m page. (pages m page).1;
    } where
      left_table : IsTable (table_with homes slots (outside range outliers))
      left_table = subst (λ os. IsTable (table_with homes slots os)) e table

      blocks : AllByRecursion (λ o. IsBlock o.range) outliers
      blocks = recursion_from_All (λ (o : Outlier). IsBlock o.range) outliers k.table.blocks

      pages : (m page : ℕ) → PageKept homes (outside range outliers) new_pools m page
      pages m page =
          let s = page_step (IsFreeAt pools m page) (IsFreeAt between m page) (IsFreeAt new_pools m page) (Uses (new_move range memory None) m page) (page < spare_pages homes m)
          false (users homes outliers m page) (pages_given_up homes range outliers m page) (users homes (outside range outliers) m page)
          (left_users homes range outliers m page) (k.runs.apart m page) (k.free m page) (taken m page) (frees m page)
          (λ w. absurd w.1) (λ f. absurd (false≢true f)) (λ w. absurd w.1) (used-inside homes m page outliers k.runs.runs) in
          let z : 0 + users homes (outside range outliers) m page ≡ users homes (outside range outliers) m page = omega arith in
          subst (λ n. (n ≤ 1) × (IsFreeAt new_pools m page ↔ ((page < spare_pages homes m) × (n ≡ 0)))) z s

-- a move by a run
abbrev pub run_move : RangeView → ℕ → ℕ → Move
run_move range memory first = new_move range memory (Some first)

abbrev pub entered : List MemoryPlan → RangeView → ℕ → ℕ → Outlier
entered homes range memory first = outlier_of homes (run_move range memory first) first

abbrev with_entered : List MemoryPlan → RangeView → ℕ → ℕ → List Outlier → List Outlier
with_entered homes range memory first outliers = put_in_order (entered homes range memory first) (outside range outliers)

pub one_more : {X : Type 0} (b : Bool) (x : X) (xs : List X) → length (cond b (x ∷ xs) xs) ≡ cond b 1 0 + length xs
one_more true x xs = omega arith
one_more false x xs = omega arith

run-inside : (homes : List MemoryPlan) (pools : List PoolView) (outliers : List Outlier) (memory log first : ℕ) →
    ((page : ℕ) → IsFreeAt pools memory page ↔ ((page < spare_pages homes memory) × (users homes outliers memory page ≡ 0))) →
    IsFreeRunAt (IsFreeAt pools) memory log first → first + 2 ^ log ≤ spare_pages homes memory
run-inside homes pools outliers memory log first free run =
    let some : 0 < 2 ^ log = omega (arith, pow_pos log) in
    let within = ((free (first + 2 ^ log - 1)).0 (run.each (first + 2 ^ log - 1) (omega (arith, some), omega (arith, some)))).0 in
    omega (arith, within, some)

pub entered-fits : (homes : List MemoryPlan) (range : RangeView) (memory first : ℕ) → first % 2 ^ range.log ≡ 0 → first + 2 ^ range.log ≤ spare_pages homes memory → FitsRun homes (entered homes range memory first)
entered-fits homes range memory first aligned inside =
    let same : first_spare_of homes (entered homes range memory first) ≡ first = omega arith in
    record {
      from = omega arith;
      run = record { aligned = subst (λ n. n % 2 ^ range.log ≡ 0) (sym same) aligned; inside = subst (λ n. n + 2 ^ range.log ≤ spare_pages homes memory) (sym same) inside };
    }

by_run : (homes : List MemoryPlan) (slots : ℕ) (moves : List Move) (outliers new_outliers : List Outlier) (pools between new_pools : List PoolView) (range : RangeView) (memory first : ℕ) →
    Kept homes slots moves outliers pools → IsBlock range → each_page range (λ page. is_some (home_of homes page)) ≡ true → IsFreeRunAt (IsFreeAt pools) memory range.log first →
    Takes pools (Ok (run_move range memory first)) between → new_outliers ≡ with_entered homes range memory first outliers →
    Frees homes range outliers between new_pools → IsTable (table_with homes slots new_outliers) → Kept homes slots (run_move range memory first ∷ moves) new_outliers new_pools
by_run homes slots moves outliers new_outliers pools between new_pools range memory first k block placed run taken e frees table =
    let move = run_move range memory first in
    let o = entered homes range memory first in
    let left = outside range outliers in
    let new = new_outside range outliers in
    let out : Outlier → Bool = λ x. not (block_lies_inside x.range range) in
    subst (λ os. Kept homes slots (run_move range memory first ∷ moves) os new_pools) (sym e) record {
      table = new_table;
      places = λ page. by_latest homes moves move page (physical_place homes (put_in_order o left) page)
          (λ t. let has = in_range-has range page t in place-by_run homes slots outliers move first page block blocks new_table (each_page-at range (λ p. is_some (home_of homes p)) page placed has) has)
          (λ f. ap (λ s. option_map (place_or_home s page) (home_of homes page)) (put-smallest o page left ordered new f ∙ elsewhere homes range page outliers f) ∙ k.places page);
      same = λ t. put-count t o left ordered new
          ∙ len-cons (t o) o (filter t left) move (filter (λ m. t (as_outlier homes m)) (filter (λ e. not (block_lies_inside e.range range)) (moves_in_force moves))) (left_in_force homes moves outliers range t k.same);
      runs = runs_from homes (put_in_order o left) new_pools (all-put (FitsRun homes) o left fits (all-left (FitsRun homes) out outliers k.runs.runs)) pages;
      free = λ m page. (pages m page).1;
    } where
      new_table : IsTable (table_with homes slots (with_entered homes range memory first outliers))
      new_table = subst (λ os. IsTable (table_with homes slots os)) e table

      blocks : AllByRecursion (λ x. IsBlock x.range) outliers
      blocks = recursion_from_All (λ (x : Outlier). IsBlock x.range) outliers k.table.blocks

      ordered : IsOrdered (outside range outliers)
      ordered = ordered-filter (λ x. not (block_lies_inside x.range range)) outliers k.table.ordered

      fits : FitsRun homes (entered homes range memory first)
      fits = entered-fits homes range memory first run.aligned (run-inside homes pools outliers memory range.log first (k.free memory) run)

      pages : (m page : ℕ) → PageKept homes (with_entered homes range memory first outliers) new_pools m page
      pages m page =
          let o = entered homes range memory first in
          let left = outside range outliers in
          let s = page_step (IsFreeAt pools m page) (IsFreeAt between m page) (IsFreeAt new_pools m page) (Uses (run_move range memory first) m page) (page < spare_pages homes m)
          (has_spare_page homes m page o) (users homes outliers m page) (pages_given_up homes range outliers m page) (users homes left m page)
          (left_users homes range outliers m page) (k.runs.apart m page) (k.free m page) (taken m page) (frees m page)
          (λ w. subst (λ n. IsFreeAt pools n page) w.0 (run.each page w.1))
          (lies_to memory m (home_pages homes memory) first page (2 ^ range.log))
          (λ w. lies_from memory m (home_pages homes memory) first page (2 ^ range.log) w.0 w.1.0 w.1.1)
          (used-inside homes m page outliers k.runs.runs) in
          let count : users homes (put_in_order o left) m page ≡ cond (has_spare_page homes m page o) 1 0 + users homes left m page =
          put-count (has_spare_page homes m page) o left ordered (new_outside range outliers) ∙ one_more (has_spare_page homes m page o) o (filter (has_spare_page homes m page) left) in
          subst (λ n. (n ≤ 1) × (IsFreeAt new_pools m page ↔ ((page < spare_pages homes m) × (n ≡ 0)))) (sym count) s

abbrev Onward : List MemoryPlan → ℕ → List Move → List Outlier → List Outlier → List PoolView → List PoolView → List PoolView → Move → Type 0
Onward homes slots moves outliers new_outliers pools between new_pools move =
    Takes pools (Ok move) between → Ended homes (Ok move) outliers between new_outliers new_pools → Kept homes slots (move ∷ moves) new_outliers new_pools

-- an accepted move
moves_on : (homes : List MemoryPlan) (slots : ℕ) (moves : List Move) (outliers new_outliers : List Outlier) (pools between new_pools : List PoolView) (range : RangeView) (memory : ℕ) (move : Move) →
    Kept homes slots moves outliers pools → IsBlock range → Plans (table_with homes slots outliers) pools range memory (Ok move) → Takes pools (Ok move) between →
    Ended homes (Ok move) outliers between new_outliers new_pools → IsTable (table_with homes slots new_outliers) → Kept homes slots (move ∷ moves) new_outliers new_pools
moves_on homes slots moves outliers new_outliers pools between new_pools range memory move k block plans taken ended table =
    let a = accepts range memory (each_page range (λ page. is_some (home_of homes page))) (each_page range (λ page. is_at memory (physical_place homes outliers page)))
    (each_page range (λ page. is_at memory (home_of homes page))) (list_any (λ o. encloses o.range range) outliers) (length (outside range outliers)) slots (IsFreeAt pools) move plans in
    elim a.way [
      | inl home ↦ subst (Onward homes slots moves outliers new_outliers pools between new_pools) (sym home.1) (λ t d. homeward homes slots moves outliers new_outliers pools between new_pools range memory k block home.0 t d.0 d.1 table) taken ended
      | inr run ↦ subst (Onward homes slots moves outliers new_outliers pools between new_pools) (sym run.1.2) (λ t d. by_run homes slots moves outliers new_outliers pools between new_pools range memory run.1.0 k block a.has_homes run.1.1.run t d.0 d.1 table) taken ended
    ]

step_on : (homes : List MemoryPlan) (slots : ℕ) (moves : List Move) (outliers new_outliers : List Outlier) (pools between new_pools : List PoolView) (range : RangeView) (memory : ℕ) (result : Result Move Outcome) →
    Kept homes slots moves outliers pools → IsBlock range → Plans (table_with homes slots outliers) pools range memory result → Takes pools result between →
    Ended homes result outliers between new_outliers new_pools → IsTable (table_with homes slots new_outliers) → Kept homes slots (accepted_in result moves) new_outliers new_pools
step_on homes slots moves outliers new_outliers pools between new_pools range memory (Ok move) k block plans taken ended table =
    moves_on homes slots moves outliers new_outliers pools between new_pools range memory move k block plans taken ended table
step_on homes slots moves outliers new_outliers pools between new_pools range memory (Err outcome) k block plans taken ended table =
    subst (λ os. Kept homes slots moves os new_pools) (sym ended.0) (subst (λ ps. Kept homes slots moves outliers ps) (sym (ended.1 ∙ taken)) k)

pub always : (homes : List MemoryPlan) (slots : ℕ) (migrates : List Migrate) (outliers : List Outlier) (pools : List PoolView) → Reached homes slots migrates outliers pools → Kept homes slots (accepted migrates) outliers pools
always homes slots [] outliers pools r =
    let table : IsTable (table_with homes slots []) = subst (λ os. IsTable (table_with homes slots os)) r.1 r.0 in
    subst (λ os. Kept homes slots [] os pools) (sym r.1) (subst (λ ps. Kept homes slots [] [] ps) (sym r.2) (at_first homes slots table))
always homes slots (migrate ∷ earlier) outliers pools r =
    let m = r.3 in
    step_on homes slots (accepted earlier) r.0 outliers r.1 m.between pools migrate.range migrate.memory migrate.result (always homes slots earlier r.0 r.1 r.2) m.block m.planned m.taken m.ended m.table

-- what the moves in force say of the free pages
pub free-after : (homes : List MemoryPlan) (slots : ℕ) (moves : List Move) (outliers : List Outlier) (pools : List PoolView) (memory page : ℕ) → Kept homes slots moves outliers pools → IsFreeAt pools memory page ↔ IsFreeAfter homes moves memory page
free-after homes slots moves outliers pools memory page k =
    let count : users homes outliers memory page ≡ length (filter (has_spare memory page) (moves_in_force moves)) =
    k.same (has_spare_page homes memory page) ∙ ap length (filter-same (λ m. has_spare_page homes memory page (as_outlier homes m)) (has_spare memory page) (moves_in_force moves)
    (λ m. ap (λ n. (m.memory == memory && nat_le n page) && nat_lt page (n + 2 ^ m.range.log)) (let e : home_pages homes m.memory + first_of_run m - home_pages homes m.memory ≡ first_of_run m = omega arith in e))) in
    subst (λ n. IsFreeAt pools memory page ↔ ((page < spare_pages homes memory) × (n ≡ 0))) count (k.free memory page)

-- and of how the next move ends
pub ends-after : (homes : List MemoryPlan) (slots : ℕ) (moves : List Move) (outliers : List Outlier) (pools : List PoolView) (range : RangeView) (memory : ℕ) (result : Result Move Outcome) →
    Kept homes slots moves outliers pools → Plans (table_with homes slots outliers) pools range memory result ↔ EndsAfter homes slots moves range memory result
ends-after homes slots moves outliers pools range memory result k =
    let home = home_of homes in
    let enclosed : list_any (λ o. encloses o.range range) outliers ≡ list_any (λ e. encloses e.range range) (moves_in_force moves) =
    any-count (λ o. encloses o.range range) outliers ∙ ap (λ n. nat_lt 0 n) (k.same (λ o. encloses o.range range)) ∙ sym (any-count (λ e. encloses e.range range) (moves_in_force moves)) in
    let one = way_of range memory (physical_place homes outliers) home (list_any (λ o. encloses o.range range) outliers) in
    let other = way_of range memory (place_after homes moves) home (list_any (λ e. encloses e.range range) (moves_in_force moves)) in
    let way : one ≡ other = way-same range memory (physical_place homes outliers) (place_after homes moves) home (list_any (λ o. encloses o.range range) outliers) (list_any (λ e. encloses e.range range) (moves_in_force moves)) k.places enclosed in
    let others : length (outside range outliers) ≡ length (others_in_force range moves) = k.same (λ o. not (block_lies_inside o.range range)) in
    let agree = λ (m page : ℕ). free-after homes slots moves outliers pools m page k in
    let back : (m page : ℕ) → IsFreeAfter homes moves m page ↔ IsFreeAt pools m page = λ m page. ((agree m page).1, (agree m page).0) in (
      λ w. subst (λ v. EndsBy v range memory (length (others_in_force range moves)) slots (IsFreeAfter homes moves) result) way
          (subst (λ n. EndsBy one range memory n slots (IsFreeAfter homes moves) result) others (ends-along one range memory (length (outside range outliers)) slots (IsFreeAt pools) (IsFreeAfter homes moves) result agree w)),
      λ w. subst (λ v. EndsBy v range memory (length (outside range outliers)) slots (IsFreeAt pools) result) (sym way)
          (subst (λ n. EndsBy other range memory n slots (IsFreeAt pools) result) (sym others) (ends-along other range memory (length (others_in_force range moves)) slots (IsFreeAfter homes moves) (IsFreeAt pools) result back w)),
    )
