-- The domains that a table keeps, as contracts see them.
use Rattle.std.proofs.Common.{◌≡◌, ℕ, ◌+◌, ◌<◌, ◌≤◌, ◌^◌, List, length, get_or, map, sym, ◌∙◌, ap, arith}
use Rattle.std.proofs.Math.ListN.{set, get_or-map}
use Rattle.std.proofs.lemmas.List.{get_or_read, length-map, map-set}
use Rattle.mind_base.specs.Span.{SpanView}
use Rattle.mind_base.specs.Cover.{cover_of}
use Rattle.mind_base.specs.declared.commands.Perm.{Perm}
use Rattle.mind_base.specs.declared.commands.Perm.TheVariants.{No}
use Rattle.protect_table.specs.declared.blocks.Block.{Block}
use Rattle.protect_table.specs.declared.blocks.Block.TheVariants.{Whole}
use Rattle.protect_table.specs.Block.{whole, block_view, blocks_in, block_set}
use Rattle.protect_table.specs.Protect.{permission_among, changed, IsProtect}
use Rattle.protect_table.proofs.Tables.{CoverStep, cover-step, protect-step, permission_among-set, domain_with}

-- the block that was read at a place
pub view_of-read : (items : List Block) (i : ℕ) (block : Block) → length (map block_view items) ≡ 16 → i < 16 → block ≡ get_or items i block → block_view block ≡ get_or (map block_view items) i (whole No)
view_of-read items i block count lt read =
    let n = length-map items block_view in
    ap block_view (get_or_read items i block (omega (arith, n, count)) read (Whole No)) ∙ sym (get_or-map block_view items i (Whole No))

module _ (slots kept : ℕ) (items : List Block) (span : SpanView) (perm : Perm) (block : Block) (h : IsProtect slots kept (map block_view items)) (there : span.domain < 16) (fits : span.base + span.pages ≤ 2 ^ 20) (read : block ≡ get_or items span.domain block) where
  pub cover-read : (before after : ℕ) → before ≡ blocks_in (block_view block) → after ≡ blocks_in (block_set 20 (block_view block) span.base (span.base + span.pages) perm) → CoverStep kept before after (cover_of (changed (permission_among (map block_view items)) span perm))
  cover-read before after b a =
      let e = view_of-read items span.domain block h.count there read in
      cover-step slots kept (map block_view items) span perm before after h there fits (b ∙ ap blocks_in e) (a ∙ ap (λ x. blocks_in (block_set 20 x span.base (span.base + span.pages) perm)) e)

  -- the domains with the changed block
  pub set-read : (next : Block) → block_view next ≡ block_set 20 (block_view block) span.base (span.base + span.pages) perm → map block_view (set items span.domain next) ≡ set (map block_view items) span.domain (domain_with (map block_view items) span perm)
  set-read next e =
      let r = view_of-read items span.domain block h.count there read in
      map-set block_view items span.domain next ∙ ap (set (map block_view items) span.domain) (e ∙ ap (λ x. block_set 20 x span.base (span.base + span.pages) perm) r)

  pub put-read : (next : Block) (cover : ℕ) → block_view next ≡ block_set 20 (block_view block) span.base (span.base + span.pages) perm → cover ≡ cover_of (changed (permission_among (map block_view items)) span perm) → cover ≤ slots → IsProtect slots cover (map block_view (set items span.domain next))
  put-read next cover e c within =
      rw (set-read next e) (protect-step slots kept cover (map block_view items) span perm h there fits c within)

  pub put-permissions : (next : Block) → block_view next ≡ block_set 20 (block_view block) span.base (span.base + span.pages) perm → permission_among (map block_view (set items span.domain next)) ≡ changed (permission_among (map block_view items)) span perm
  put-permissions next e =
      rw (set-read next e) (permission_among-set (map block_view items) span perm (omega (arith, h.count)) fits)
