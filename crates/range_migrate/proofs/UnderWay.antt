-- A planned move is under way, and what its end leaves of the runs.
use Rattle.std.proofs.Common.{◌≡◌, ℕ, ◌+◌, ◌<◌, ◌≤◌, ◌%◌, ◌^◌, ◌↔◌, ◌⊎◌, Bool, true, false, cond, not, List, length, filter, Option, Some, None, is_some, refl, sym, ap, ◌∙◌, subst, arith, inl, inr}
use Rattle.std.proofs.lemmas.Bool.{false≢true}
use Rattle.mind_base.specs.Range.{RangeView}
use Rattle.mind_base.specs.Home.{home_of}
use Rattle.mind_base.specs.declared.plans.MemoryPlan.{MemoryPlan}
use Rattle.range_translate.specs.Block.{block_lies_inside}
use Rattle.range_translate.specs.Order.{IsOrdered, put_in_order}
use Rattle.range_translate.specs.Table.{TableView}
use Rattle.range_translate.specs.declared.outliers.Outlier.{Outlier}
use Rattle.spare_pool.specs.Pool.{PoolView, InRun}
use Rattle.range_migrate.specs.Run.{home_pages, spare_pages, ArePools, IsFreeAt, has_spare_page, users, FitsRun, AreRuns}
use Rattle.range_migrate.specs.Plan.{each_page, outside, IsFreeRunAt, new_move}
use Rattle.range_migrate.specs.Ending.{IsPlaced, FitsSpare, outlier_of, outliers_after, pages_given_up, Frees, OwnsRun, IsUnderWay, table_after}
use Rattle.range_migrate.specs.declared.moves.Move.{Move}
use Rattle.range_migrate.proofs.InOrder.{put-count, all-left, all-put}
use Rattle.range_migrate.proofs.PageSteps.{lies_to}
use Rattle.range_migrate.proofs.Kept.{new_outside, left_users, one_more, entered-fits}
use Rattle.range_migrate.proofs.PlanFacts.{each_page-at}

-- the uses of a page when the move ends
page_after : (FreeB New : Type 0) (b : Bool) (u g n : ℕ) → n + g ≡ u → u ≤ 1 → (FreeB → u ≡ 0) → (New ↔ (FreeB ⊎ (0 < g))) → (b ≡ true → (FreeB → ⊥) × (u ≡ 0)) →
    (cond b 1 0 + n ≤ 1) × (New → cond b 1 0 + n ≡ 0)
page_after FreeB New true u g n parts once unused new own =
    let o = own refl in
    (omega (arith, o.1, parts), λ w. absurd (none o.0 o.1 (new.0 w))) where
      none : (FreeB → ⊥) → u ≡ 0 → (FreeB ⊎ (0 < g)) → ⊥
      none f z (inl w) = f w
      none f z (inr w) = omega (arith, w, z, parts)
page_after FreeB New false u g n parts once unused new own = (omega (arith, once, parts), λ w. after (new.0 w)) where
  after : (FreeB ⊎ (0 < g)) → 0 + n ≡ 0
  after (inl w) = omega (arith, unused w, parts)
  after (inr w) = omega (arith, w, parts, once)

pub after_home : (homes : List MemoryPlan) (range : RangeView) (outliers : List Outlier) (pools new_pools : List PoolView) → AreRuns homes outliers pools → Frees homes range outliers pools new_pools → AreRuns homes (outside range outliers) new_pools
after_home homes range outliers pools new_pools runs frees = record {
  runs = all-left (FitsRun homes) (λ o. not (block_lies_inside o.range range)) outliers runs.runs;
  apart = λ m page. let h = (page_at m page).0 in omega (arith, h);
  taken = λ m page w. let h = (page_at m page).1 w in omega (arith, h);
} where
  page_at : (m page : ℕ) → (0 + users homes (outside range outliers) m page ≤ 1) × (IsFreeAt new_pools m page → 0 + users homes (outside range outliers) m page ≡ 0)
  page_at m page = page_after (IsFreeAt pools m page) (IsFreeAt new_pools m page) false (users homes outliers m page) (pages_given_up homes range outliers m page) (users homes (outside range outliers) m page)
      (left_users homes range outliers m page) (runs.apart m page) (runs.taken m page) (frees m page) (λ e. absurd (false≢true e))

after_run : (homes : List MemoryPlan) (move : Move) (first : ℕ) (outliers : List Outlier) (pools new_pools : List PoolView) → IsOrdered (outside move.range outliers) → AreRuns homes outliers pools → first + 2 ^ move.range.log ≤ spare_pages homes move.memory → first % 2 ^ move.range.log ≡ 0 →
    ((page : ℕ) → InRun move.range.log first page → (IsFreeAt pools move.memory page → ⊥) × (users homes outliers move.memory page ≡ 0)) →
    Frees homes move.range outliers pools new_pools → AreRuns homes (put_in_order (outlier_of homes move first) (outside move.range outliers)) new_pools
after_run homes move first outliers pools new_pools ordered runs inside aligned own frees = record {
  runs = all-put (FitsRun homes) (outlier_of homes move first) (outside move.range outliers) (entered-fits homes move.range move.memory first aligned inside)
      (all-left (FitsRun homes) (λ o. not (block_lies_inside o.range move.range)) outliers runs.runs);
  apart = λ m page. subst (λ n. n ≤ 1) (sym (count m page)) (page_at m page).0;
  taken = λ m page w. count m page ∙ (page_at m page).1 w;
} where
  count : (m page : ℕ) → users homes (put_in_order (outlier_of homes move first) (outside move.range outliers)) m page
      ≡ cond (has_spare_page homes m page (outlier_of homes move first)) 1 0 + users homes (outside move.range outliers) m page
  count m page =
      put-count (has_spare_page homes m page) (outlier_of homes move first) (outside move.range outliers) ordered (new_outside move.range outliers)
      ∙ one_more (has_spare_page homes m page (outlier_of homes move first)) (outlier_of homes move first) (filter (has_spare_page homes m page) (outside move.range outliers))

  page_at : (m page : ℕ) → (cond (has_spare_page homes m page (outlier_of homes move first)) 1 0 + users homes (outside move.range outliers) m page ≤ 1)
      × (IsFreeAt new_pools m page → cond (has_spare_page homes m page (outlier_of homes move first)) 1 0 + users homes (outside move.range outliers) m page ≡ 0)
  page_at m page = page_after (IsFreeAt pools m page) (IsFreeAt new_pools m page) (has_spare_page homes m page (outlier_of homes move first)) (users homes outliers m page) (pages_given_up homes move.range outliers m page)
      (users homes (outside move.range outliers) m page) (left_users homes move.range outliers m page) (runs.apart m page) (runs.taken m page) (frees m page)
      (λ e. (let h = lies_to move.memory m (home_pages homes move.memory) first page (2 ^ move.range.log) e in
      subst (λ k. (IsFreeAt pools k page → ⊥) × (users homes outliers k page ≡ 0)) h.0 (own page h.1)))

-- no spare page has two uses when the move has ended
pub runs-after : (table : TableView) (pools new_pools : List PoolView) (move : Move) (run : Option ℕ) → IsOrdered (outside move.range table.outliers) → AreRuns table.homes table.outliers pools → FitsSpare table.homes move run →
    OwnsRun table pools move run → Frees table.homes move.range table.outliers pools new_pools → AreRuns table.homes (outliers_after table.homes move run table.outliers) new_pools
runs-after table pools new_pools move None ordered runs fits own frees = after_home table.homes move.range table.outliers pools new_pools runs frees
runs-after table pools new_pools move (Some first) ordered runs fits own frees = after_run table.homes move first table.outliers pools new_pools ordered runs fits own.0 own.1 frees

-- all pages of a block have a home
pub placed-from : (homes : List MemoryPlan) (range : RangeView) → each_page range (λ page. is_some (home_of homes page)) ≡ true → IsPlaced homes range
placed-from homes range e = λ page has. each_page-at range (λ p. is_some (home_of homes p)) page e has

-- fewer free pages leave the runs as they are
pub fewer-free : (homes : List MemoryPlan) (outliers : List Outlier) (pools new_pools : List PoolView) → AreRuns homes outliers pools → ((m page : ℕ) → IsFreeAt new_pools m page → IsFreeAt pools m page) → AreRuns homes outliers new_pools
fewer-free homes outliers pools new_pools runs fewer = record {
  runs = runs.runs;
  apart = runs.apart;
  taken = λ m page w. runs.taken m page (fewer m page w);
}

-- a planned move without a run, and one with a run
pub under_way-home : (table : TableView) (pools : List PoolView) (range : RangeView) (memory : ℕ) → ArePools table.homes pools → memory < length pools →
    each_page range (λ page. is_some (home_of table.homes page)) ≡ true → AreRuns table.homes table.outliers pools → IsUnderWay table pools (new_move range memory None)
under_way-home table pools range memory same there placed runs = record {
  one_each = same;
  there = there;
  placed = placed-from table.homes range placed;
  run = tt;
  runs = runs;
  own = tt;
  slot = tt;
}

pub under_way-run : (table : TableView) (pools new_pools : List PoolView) (range : RangeView) (memory first : ℕ) → ArePools table.homes new_pools → memory < length new_pools →
    each_page range (λ page. is_some (home_of table.homes page)) ≡ true → AreRuns table.homes table.outliers pools → IsFreeRunAt (IsFreeAt pools) memory range.log first →
    first + 2 ^ range.log ≤ spare_pages table.homes memory → length (outside range table.outliers) + 1 ≤ table.slots →
    ((m page : ℕ) → IsFreeAt new_pools m page ↔ (IsFreeAt pools m page × ((memory ≡ m) × InRun range.log first page → ⊥))) → IsUnderWay table new_pools (new_move range memory (Some first))
under_way-run table pools new_pools range memory first same there placed runs run inside slot taken = record {
  one_each = same;
  there = there;
  placed = placed-from table.homes range placed;
  run = inside;
  runs = fewer-free table.homes table.outliers pools new_pools runs (λ m page w. ((taken m page).0 w).0);
  own = (run.aligned, λ page l. (λ w. ((taken memory page).0 w).1 (refl, l), runs.taken memory page (run.each page l)));
  slot = slot;
}

-- the table of a move that has ended by a run
pub table-by_run : (table removed new : TableView) (move : Move) (first : ℕ) (o : Outlier) → move.run ≡ Some first → removed ≡ record table { outliers = outside move.range table.outliers } →
    o ≡ outlier_of removed.homes move first → new ≡ record removed { outliers = put_in_order o removed.outliers } → new ≡ table_after move table
table-by_run table removed new move first o run e same put = subst Ends (sym e) (λ s p.
    p ∙ ap (λ (x : Outlier). let t : TableView = record { homes = table.homes; slots = table.slots; outliers = put_in_order x (outside move.range table.outliers) } in t) s
    ∙ ap (λ (r : Option ℕ). let t : TableView = record { homes = table.homes; slots = table.slots; outliers = outliers_after table.homes move r table.outliers } in t) (sym run)) same put where
      Ends : TableView → Type 0
      Ends r = o ≡ outlier_of r.homes move first → new ≡ record r { outliers = put_in_order o r.outliers } → new ≡ table_after move table
