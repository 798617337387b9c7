-- One pool among those of the memory blades: what it says of free pages and runs, and what changes when it changes.
use Rattle.std.proofs.Common.{◌≡◌, ℕ, zero, suc, ◌+◌, ◌-◌, ◌<◌, ◌≤◌, ◌^◌, ◌↔◌, ◌⊎◌, List, [], ◌∷◌, length, map, slice_get, slice_set, Option, Some, None, IsSomeAnd, All, Contains, refl, sym, ap, ◌∙◌, subst, arith, inl, inr}
use Rattle.std.specs.List.{AllByRecursion}
use Rattle.std.specs.Option.{unwrap_or}
use Rattle.std.proofs.lemmas.Bool.{cases_eq}
use Rattle.std.proofs.lemmas.List.{length-map}
use Rattle.std.proofs.lemmas.List.Elements.{recursion_from_All}
use Rattle.std.proofs.lemmas.Nat.{pow_pos}
use Rattle.mind_base.specs.declared.plans.MemoryPlan.{MemoryPlan}
use Rattle.spare_pool.specs.Pool.{PoolView, IsPool, InRun, IsFreeRun, IsLowestRun}
use Rattle.range_translate.specs.Place.{pages_of}
use Rattle.range_migrate.specs.Run.{home_pages, spare_pages, ArePools, IsFreeAt}
use Rattle.range_migrate.specs.Plan.{IsFreeRunAt, IsLowestRunAt}
use Rattle.range_migrate.specs.Ending.{FitsSpare}
use Rattle.range_migrate.specs.declared.moves.Move.{Move}

pub free-at : (pools : List PoolView) (memory page : ℕ) (pool : PoolView) → slice_get pools memory ≡ Some pool → IsFreeAt pools memory page ↔ Contains pool.free page
free-at pools memory page pool e = subst (λ (o : Option PoolView). IsSomeAnd o (λ p. Contains p.free page) ↔ Contains pool.free page) (sym e) (λ w. w, λ w. w)

-- runs of one pool
pub run-at : (pools : List PoolView) (memory log first : ℕ) (pool : PoolView) → slice_get pools memory ≡ Some pool → IsFreeRun pool log first ↔ IsFreeRunAt (IsFreeAt pools) memory log first
run-at pools memory log first pool e = (
  λ r. record { aligned = r.aligned; each = λ page l. (free-at pools memory page pool e).1 (r.free page l) },
  λ r. record { aligned = r.aligned; free = λ page l. (free-at pools memory page pool e).0 (r.each page l) },
)

pub lowest-at : (pools : List PoolView) (memory log first : ℕ) (pool : PoolView) → slice_get pools memory ≡ Some pool → IsLowestRun pool log first → IsLowestRunAt (IsFreeAt pools) memory log first
lowest-at pools memory log first pool e low = record {
  run = (run-at pools memory log first pool e).0 low.run;
  lowest = λ other r. low.lowest other ((run-at pools memory log other pool e).1 r);
}

-- a free run ends inside its pool
pub run-inside_pool : (pool : PoolView) (log first : ℕ) → IsPool pool → IsFreeRun pool log first → first + 2 ^ log ≤ pool.pages
run-inside_pool pool log first is run =
    let some : 0 < 2 ^ log = omega (arith, pow_pos log) in
    let last : Contains pool.free (first + 2 ^ log - 1) = run.free (first + 2 ^ log - 1) (omega (arith, some), omega (arith, some)) in
    let within : first + 2 ^ log - 1 < pool.pages = subst (λ n. n < pool.pages) last.2 (is.inside last.0 (first + 2 ^ log - 1) last.1) in
    omega (arith, within, some)

-- Another pool in the place of one.
set-here : (pools : List PoolView) (memory page : ℕ) (new : PoolView) → memory < length pools → IsFreeAt (slice_set pools memory new) memory page ↔ Contains new.free page
set-here [] memory page new l = absurd (omega (arith, l))
set-here (p ∷ ps) zero page new l = (λ w. w, λ w. w)
set-here (p ∷ ps) (suc n) page new l = set-here ps n page new (omega (arith, l))

set-other : (pools : List PoolView) (memory m page : ℕ) (new : PoolView) → (memory ≡ m → ⊥) → IsFreeAt (slice_set pools memory new) m page ↔ IsFreeAt pools m page
set-other [] memory m page new d = (λ w. w, λ w. w)
set-other (p ∷ ps) zero zero page new d = absurd (d refl)
set-other (p ∷ ps) zero (suc m) page new d = (λ w. w, λ w. w)
set-other (p ∷ ps) (suc n) zero page new d = (λ w. w, λ w. w)
set-other (p ∷ ps) (suc n) (suc m) page new d = set-other ps n m page new (λ e. d (ap suc e))

pub set-pages : (pools : List PoolView) (memory : ℕ) (old new : PoolView) → slice_get pools memory ≡ Some old → new.pages ≡ old.pages → map (λ (pool : PoolView). pool.pages) (slice_set pools memory new) ≡ map (λ (pool : PoolView). pool.pages) pools
set-pages [] memory old new e q = refl
set-pages (p ∷ ps) zero old new e q = let same : p ≡ old = cc in ap (λ n. n ∷ map (λ (pool : PoolView). pool.pages) ps) (q ∙ ap (λ (pool : PoolView). pool.pages) (sym same))
set-pages (p ∷ ps) (suc n) old new e q = ap (λ ns. p.pages ∷ ns) (set-pages ps n old new e q)

-- a run is taken from it
pub set-taken : (pools : List PoolView) (memory log first : ℕ) (old new : PoolView) → memory < length pools → slice_get pools memory ≡ Some old →
    ((page : ℕ) → Contains new.free page ↔ (Contains old.free page × (InRun log first page → ⊥))) →
    (m page : ℕ) → IsFreeAt (slice_set pools memory new) m page ↔ (IsFreeAt pools m page × ((memory ≡ m) × InRun log first page → ⊥))
set-taken pools memory log first old new there e taken m page = elim (cases_eq memory m) [
  | inl same ↦ subst (λ k. IsFreeAt (slice_set pools memory new) k page ↔ (IsFreeAt pools k page × ((memory ≡ k) × InRun log first page → ⊥))) same here
  | inr other ↦ (let s = set-other pools memory m page new other in (λ w. (s.0 w, λ t. other t.0), λ w. s.1 w.0))
] where
  here : IsFreeAt (slice_set pools memory new) memory page ↔ (IsFreeAt pools memory page × ((memory ≡ memory) × InRun log first page → ⊥))
  here =
      let s = set-here pools memory page new there in
      let f = free-at pools memory page old e in (
        λ w. (let t = (taken page).0 (s.0 w) in (f.1 t.0, λ r. t.1 r.1)),
        λ w. s.1 ((taken page).1 (f.0 w.0, λ r. w.1 (refl, r))),
      )

-- a run is given back to it
pub set-given : (pools : List PoolView) (memory log first : ℕ) (old new : PoolView) → memory < length pools → slice_get pools memory ≡ Some old →
    ((page : ℕ) → Contains new.free page ↔ (Contains old.free page ⊎ InRun log first page)) →
    (m page : ℕ) → IsFreeAt (slice_set pools memory new) m page ↔ (IsFreeAt pools m page ⊎ ((memory ≡ m) × InRun log first page))
set-given pools memory log first old new there e given m page = elim (cases_eq memory m) [
  | inl same ↦ subst (λ k. IsFreeAt (slice_set pools memory new) k page ↔ (IsFreeAt pools k page ⊎ ((memory ≡ k) × InRun log first page))) same here
  | inr other ↦ (let s = set-other pools memory m page new other in (λ w. inl (s.0 w), λ w. s.1 (only other w)))
] where
  only : (memory ≡ m → ⊥) → (IsFreeAt pools m page ⊎ ((memory ≡ m) × InRun log first page)) → IsFreeAt pools m page
  only other (inl w) = w
  only other (inr r) = absurd (other r.0)

  f : IsFreeAt pools memory page ↔ Contains old.free page
  f = free-at pools memory page old e

  there_now : (Contains old.free page ⊎ InRun log first page) → IsFreeAt pools memory page ⊎ ((memory ≡ memory) × InRun log first page)
  there_now (inl w) = inl (f.1 w)
  there_now (inr r) = inr (refl, r)

  from_there : (IsFreeAt pools memory page ⊎ ((memory ≡ memory) × InRun log first page)) → Contains old.free page ⊎ InRun log first page
  from_there (inl w) = inl (f.0 w)
  from_there (inr r) = inr r.1

  here : IsFreeAt (slice_set pools memory new) memory page ↔ (IsFreeAt pools memory page ⊎ ((memory ≡ memory) × InRun log first page))
  here = let s = set-here pools memory page new there in (λ w. there_now ((given page).0 (s.0 w)), λ w. s.1 ((given page).1 (from_there w)))

-- what the plans of the memory blades say of the spare pages of a pool
pub pool-spare : (homes : List MemoryPlan) (pools : List PoolView) (memory : ℕ) (pool : PoolView) → ArePools homes pools → slice_get pools memory ≡ Some pool → pool.pages ≡ spare_pages homes memory
pool-spare homes pools memory pool same e = pages_at pools memory e ∙ ap (λ (ns : List ℕ). unwrap_or (slice_get ns memory) 0) same where
  pages_at : (ps : List PoolView) (i : ℕ) → slice_get ps i ≡ Some pool → pool.pages ≡ unwrap_or (slice_get (map (λ (p : PoolView). p.pages) ps) i) 0
  pages_at [] i w = absurd cc
  pages_at (p ∷ ps) zero w = let s : p ≡ pool = cc in ap (λ (q : PoolView). q.pages) (sym s)
  pages_at (p ∷ ps) (suc i) w = pages_at ps i w

-- a memory blade has few spare pages, and is there if it has some
pub spare-few : (homes : List MemoryPlan) (memory : ℕ) → All (λ m. m.spare ≤ 4096) homes → spare_pages homes memory ≤ 4096
spare-few homes memory all = step homes memory (recursion_from_All (λ (m : MemoryPlan). m.spare ≤ 4096) homes all) where
  step : (ms : List MemoryPlan) (i : ℕ) → AllByRecursion (λ m. m.spare ≤ 4096) ms → spare_pages ms i ≤ 4096
  step [] i h = omega arith
  step (m ∷ ms) zero h = h.0
  step (m ∷ ms) (suc i) h = step ms i h.1

-- so a run of them ends early
pub run-few : (homes : List MemoryPlan) (move : Move) (run : Option ℕ) (first : ℕ) → All (λ m. m.spare ≤ 4096) homes → run ≡ Some first → FitsSpare homes move run → first + 2 ^ move.range.log ≤ 4096
run-few homes move run first all is fits =
    let inside : first + 2 ^ move.range.log ≤ spare_pages homes move.memory = subst (FitsSpare homes move) is fits in
    omega (arith, inside, spare-few homes move.memory all)

spare-there : (homes : List MemoryPlan) (memory : ℕ) → 0 < spare_pages homes memory → memory < length homes
spare-there [] i l = absurd (omega (arith, l))
spare-there (m ∷ ms) zero l = omega arith
spare-there (m ∷ ms) (suc i) l = let t = spare-there ms i l in omega (arith, t)

pub run-there : (homes : List MemoryPlan) (memory log first : ℕ) → first + 2 ^ log ≤ spare_pages homes memory → memory < length homes
run-there homes memory log first l = spare-there homes memory (let some = pow_pos log in omega (arith, l, some))

-- there is one pool for each memory blade
pub as_many : (homes : List MemoryPlan) (pools : List PoolView) → ArePools homes pools → length pools ≡ length homes
as_many homes pools same = sym (length-map pools (λ (p : PoolView). p.pages)) ∙ ap length same ∙ length-map homes (λ (m : MemoryPlan). m.spare)

-- the number of home pages, as a table gives it
pub base-is : (homes : List MemoryPlan) (memory n : ℕ) → slice_get (map (λ (m : MemoryPlan). pages_of m.homes) homes) memory ≡ Some n → home_pages homes memory ≡ n
base-is homes memory n e = ap (λ (o : Option ℕ). unwrap_or o 0) e

-- so a free run lies inside the spare pages of its memory blade
pub run-fits : (homes : List MemoryPlan) (pools : List PoolView) (memory log first : ℕ) → ArePools homes pools → IsSomeAnd (slice_get pools memory) IsPool → IsFreeRunAt (IsFreeAt pools) memory log first →
    first + 2 ^ log ≤ spare_pages homes memory
run-fits homes pools memory log first same is run = step (slice_get pools memory) refl is where
  step : (o : Option PoolView) → slice_get pools memory ≡ o → IsSomeAnd o IsPool → first + 2 ^ log ≤ spare_pages homes memory
  step None e w = absurd w
  step (Some pool) e w =
      let l = run-inside_pool pool log first w ((run-at pools memory log first pool e).1 run) in
      subst (λ n. first + 2 ^ log ≤ n) (pool-spare homes pools memory pool same e) l
