-- Runs of spare pages: which are free, and which pages the moved blocks lie in.
use Rattle.std.specs.Prelude.{◌≡◌, ℕ, ◌+◌, ◌-◌, ◌%◌, ◌^◌, ◌≤◌, Bool, ◌&&◌, ◌==◌, nat_lt, nat_le, List, length, map, filter, slice_get, IsSomeAnd, unwrap_or}
use Rattle.std.specs.List.{AllByRecursion, Contains}
use Rattle.mind_base.specs.declared.plans.MemoryPlan.{MemoryPlan}
use Rattle.range_translate.specs.Place.{pages_of}
use Rattle.range_translate.specs.declared.outliers.Outlier.{Outlier}
use Rattle.spare_pool.specs.Pool.{PoolView}

-- how many home pages a memory blade has, which is the physical number of its first spare page
abbrev pub home_pages : List MemoryPlan → ℕ → ℕ
home_pages homes memory = unwrap_or (slice_get (map (λ m. pages_of m.homes) homes) memory) 0

-- how many spare pages it has
abbrev pub spare_pages : List MemoryPlan → ℕ → ℕ
spare_pages homes memory = unwrap_or (slice_get (map (λ m. m.spare) homes) memory) 0

-- one pool for each memory blade, of as many pages as it has spare pages
abbrev pub ArePools : List MemoryPlan → List PoolView → Type 0
ArePools homes pools = map (λ pool. pool.pages) pools ≡ map (λ m. m.spare) homes

-- this spare page of the memory blade is free
abbrev pub IsFreeAt : List PoolView → ℕ → ℕ → Type 0
IsFreeAt pools memory page = IsSomeAnd (slice_get pools memory) (λ pool. Contains pool.free page)

-- 2 ^ log spare pages of the memory blade, from this one on: a run, at a multiple of its size
pub record IsRun (homes : List MemoryPlan) (memory log first : ℕ) : Type 0 where
  pub aligned : first % 2 ^ log ≡ 0
  pub inside : first + 2 ^ log ≤ spare_pages homes memory

-- the number of an outlier's first page among the spare pages
abbrev pub first_spare_of : List MemoryPlan → Outlier → ℕ
first_spare_of homes o = o.first - home_pages homes o.memory

-- whether the outlier's run has this spare page of this memory blade
abbrev pub has_spare_page : List MemoryPlan → ℕ → ℕ → Outlier → Bool
has_spare_page homes memory page o = o.memory == memory && nat_le (first_spare_of homes o) page && nat_lt page (first_spare_of homes o + 2 ^ o.range.log)

-- how many of the outliers have the spare page
abbrev pub users : List MemoryPlan → List Outlier → ℕ → ℕ → ℕ
users homes outliers memory page = length (filter (has_spare_page homes memory page) outliers)

-- the outlier's pages are a run of spare pages of a memory blade
pub record FitsRun (homes : List MemoryPlan) (o : Outlier) : Type 0 where
  pub from : home_pages homes o.memory ≤ o.first
  pub run : IsRun homes o.memory o.range.log (first_spare_of homes o)

-- each outlier has a run of spare pages, no spare page is in two of them, and a free one is in none
pub record AreRuns (homes : List MemoryPlan) (outliers : List Outlier) (pools : List PoolView) : Type 0 where
  pub runs : AllByRecursion (FitsRun homes) outliers
  pub apart : (memory page : ℕ) → users homes outliers memory page ≤ 1
  pub taken : (memory page : ℕ) → IsFreeAt pools memory page → users homes outliers memory page ≡ 0
