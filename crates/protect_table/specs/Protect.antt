-- Tables of permissions, and the first page of a run that has one.
use Rattle.std.specs.Prelude.{◌≡◌, ℕ, ◌+◌, ◌<◌, ◌≤◌, ◌^◌, nat_lt, List, length, sum_by, slice_index_or, slice_set, Option, Some, None, refl, if◌then◌else◌}
use Rattle.std.specs.Coded.{Coded, code_by, coded×, coded_list, coded_ℕ}
use Rattle.mind_base.specs.Page.{PageView}
use Rattle.mind_base.specs.Span.{SpanView, InSpan, in_span}
use Rattle.mind_base.specs.declared.commands.Perm.{Perm}
use Rattle.mind_base.specs.declared.commands.Perm.TheVariants.{No}
use Rattle.protect_table.specs.Block.{BlockView, whole, permission_in, blocks_in, IsHalved, block_set}
use Rattle.protect_table.specs.BlockCode.{block_code}

-- a table: how many blocks it may need, and the permissions of each domain as a block of 2 ^ 20 pages
pub record ProtectView : Type 0 where
  pub slots : ℕ
  pub domains : List BlockView

abbrev pub protect_code : Coded ProtectView
protect_code =
    code_by (ℕ × List BlockView) (coded× coded_ℕ (coded_list block_code)) (λ t. (t.slots, t.domains)) (λ p. record { slots = p.0; domains = p.1 }) (λ t. refl)

-- the permission of a page in these domains: none for what is no page
abbrev pub permission_among : List BlockView → PageView → Perm
permission_among domains page =
    if nat_lt page.number (2 ^ 20) then permission_in (slice_index_or domains page.domain (whole No)) 20 page.number else No

-- the permission that a table has for a page
abbrev pub permission_at : ProtectView → PageView → Perm
permission_at table page = permission_among table.domains page

-- these permissions, but for a run of pages that have this one
abbrev pub changed : (PageView → Perm) → SpanView → Perm → PageView → Perm
changed permissions span perm page = if in_span span page then perm else permissions page

-- the table in which a run of pages is set to a permission: the block of its domain alone is another
abbrev pub span_set : ProtectView → SpanView → Perm → ProtectView
span_set table span perm = record table {
  domains = slice_set table.domains span.domain
      (block_set 20 (slice_index_or table.domains span.domain (whole No)) span.base (span.base + span.pages) perm);
}

-- a table keeps 16 domains in as few blocks as there can be, counts those that are not of permission none, and has a slot for each
pub record IsProtect (slots cover : ℕ) (domains : List BlockView) : Type 0 where
  pub count : length domains ≡ 16
  pub halved : (domain : ℕ) → IsHalved (slice_index_or domains domain (whole No)) 20
  pub counted : cover ≡ sum_by blocks_in domains
  pub within : cover ≤ slots

-- the page is the first of the run of which this is true
pub record IsFirstPage (P : PageView → Type 0) (span : SpanView) (page : PageView) : Type 0 where
  pub within : InSpan span page
  pub holds : P page
  pub earliest : (earlier : PageView) → InSpan span earlier → earlier.number < page.number → ¬ P earlier

-- the first page of the run of which this is true; None: there is none
abbrev pub FirstPage : (PageView → Type 0) → SpanView → Option PageView → Type 0
FirstPage P span None = (page : PageView) → InSpan span page → ¬ P page
FirstPage P span (Some page) = IsFirstPage P span page
