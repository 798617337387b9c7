-- Which spare pages are free, and the runs that are taken and given back.
use Rattle.std.specs.Prelude.{◌≡◌, ℕ, ◌+◌, ◌%◌, ◌^◌, ◌<◌, ◌≤◌, not, ◌&&◌, nat_lt, nat_le, List, ◌++◌, filter, All, Contains}
use Rattle.std.specs.List.{range_with_len}
use Rattle.std.specs.List.Sorted.{IsStrictlyIncreasing}

-- how many spare pages there are, numbered from 0, and which are free, rising
pub record PoolView : Type 0 where
  pub pages : ℕ
  pub free : List ℕ

-- there are at most 4096 pages, and the free ones are some of them, each named once, rising
pub record IsPool (pool : PoolView) : Type 0 where
  pub limit : pool.pages ≤ 4096
  pub rising : IsStrictlyIncreasing pool.free
  pub inside : All (λ page. page < pool.pages) pool.free

-- the page is one of the 2 ^ log pages from first on
abbrev pub InRun : ℕ → ℕ → ℕ → Type 0
InRun log first page = (first ≤ page) × (page < first + 2 ^ log)

-- a run of 2 ^ log pages that starts at a multiple of its size, all of them free
pub record IsFreeRun (pool : PoolView) (log first : ℕ) : Type 0 where
  pub aligned : first % 2 ^ log ≡ 0
  pub free : (page : ℕ) → InRun log first page → Contains pool.free page

-- no free run of that size starts lower
pub record IsLowestRun (pool : PoolView) (log first : ℕ) : Type 0 where
  pub run : IsFreeRun pool log first
  pub lowest : (other : ℕ) → IsFreeRun pool log other → first ≤ other

-- every page is free
abbrev pub all_free : ℕ → PoolView
all_free pages = record { pages = pages; free = range_with_len 0 pages }

-- the pages of the run are free no more
abbrev pub without_run : PoolView → ℕ → ℕ → PoolView
without_run pool log first = record {
  pages = pool.pages;
  free = filter (λ page. not (nat_le first page && nat_lt page (first + 2 ^ log))) pool.free;
}

-- the free pages below the run, those of the run, and the free ones above it
abbrev pub with_run : PoolView → ℕ → ℕ → PoolView
with_run pool log first = record {
  pages = pool.pages;
  free = filter (λ page. nat_lt page first) pool.free ++ range_with_len first (2 ^ log) ++ filter (λ page. nat_le (first + 2 ^ log) page) pool.free;
}
