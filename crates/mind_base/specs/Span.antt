-- Runs of pages of one domain.
use Rattle.std.specs.Prelude.{◌≡◌, ℕ, ◌+◌, ◌<◌, ◌≤◌, ◌^◌, Bool, ◌&&◌, ◌==◌, nat_lt, nat_le}
use Rattle.mind_base.specs.Page.{PageView}

-- a run of pages of one domain: the number of its first page, and how many pages there are
pub record SpanView : Type 0 where
  pub domain : ℕ
  pub base : ℕ
  pub pages : ℕ

-- a run has at least one page and lies inside its domain
abbrev pub IsSpan : ℕ → ℕ → ℕ → Type 0
IsSpan domain base pages = (domain < 16) × (0 < pages) × (base + pages ≤ 2 ^ 20)

-- the page is one of the run's
pub record InSpan (span : SpanView) (page : PageView) : Type 0 where
  pub domain : page.domain ≡ span.domain
  pub from : span.base ≤ page.number
  pub below : page.number < span.base + span.pages

-- the test whether a page is one of the run's
abbrev pub in_span : SpanView → PageView → Bool
in_span span page = page.domain == span.domain && nat_le span.base page.number && nat_lt page.number (span.base + span.pages)
