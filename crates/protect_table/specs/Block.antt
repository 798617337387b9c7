-- The permissions of the pages of a block, by halving it.
use Rattle.std.specs.Prelude.{◌≡◌, ℕ, ◌+◌, ◌-◌, ◌^◌, ◌<◌, Bool, false, ◌&&◌, ◌||◌, ◌==◌, nat_lt, nat_le, zero, suc, Option, Some, None, option_map, if◌then◌else◌}
use Rattle.mind_base.specs.Cover.{level}
use Rattle.mind_base.specs.declared.commands.Perm.{Perm}
use Rattle.protect_table.specs.declared.blocks.Block.{Block}
use Rattle.protect_table.specs.declared.blocks.Block.TheVariants.{Whole, Halves'}
use Rattle.protect_table.specs.declared.blocks.Tally.{Tally}
use Rattle.protect_table.specs.declared.blocks.Sought.{Sought}
use Rattle.protect_table.specs.declared.blocks.Sought.TheVariants.{Unmapped, Mapped}

-- a block whose pages have one permission, or its two halves, the lower one first
pub data BlockView : Type 0 where
  whole : Perm → BlockView
  halves : BlockView → BlockView → BlockView

-- a block of the code, without where it lies in memory
abbrev pub block_view : Block → BlockView
block_view (Whole perm) = whole perm
block_view (Halves' p lower q upper) = halves (block_view lower) (block_view upper)

-- the permission of page n, counted from 0 in a block of 2 ^ k pages
abbrev pub permission_in : BlockView → ℕ → ℕ → Perm
permission_in (whole perm) k n = perm
permission_in (halves lower upper) k n =
    if nat_lt n (2 ^ (k - 1)) then permission_in lower (k - 1) n else permission_in upper (k - 1) (n - 2 ^ (k - 1))

-- how many blocks have one permission, which is not none
abbrev pub blocks_in : BlockView → ℕ
blocks_in (whole perm) = if nat_lt 0 (level perm) then 1 else 0
blocks_in (halves lower upper) = blocks_in lower + blocks_in upper

-- the permission of all pages of a block, where it is kept as one
abbrev pub whole_of : BlockView → Option Perm
whole_of (whole perm) = Some perm
whole_of (halves lower upper) = None

-- two blocks that are both kept as one permission, the same
abbrev pub is_same : Option Perm → Option Perm → Bool
is_same None b = false
is_same (Some p) None = false
is_same (Some p) (Some q) = level p == level q

-- a block of 2 ^ k pages is halved only where its halves are not of one permission
abbrev pub IsHalved : BlockView → ℕ → Type 0
IsHalved (whole perm) k = Unit {0}
IsHalved (halves lower upper) k =
    (0 < k) × ((is_same (whole_of lower) (whole_of upper) ≡ false) × (IsHalved lower (k - 1) × IsHalved upper (k - 1)))

-- the lower and the upper half of a block
abbrev pub lower_of : BlockView → BlockView
lower_of (whole perm) = whole perm
lower_of (halves lower upper) = lower

abbrev pub upper_of : BlockView → BlockView
upper_of (whole perm) = whole perm
upper_of (halves lower upper) = upper

-- the block with these two halves
abbrev pub joined : BlockView → BlockView → BlockView
joined lower upper = if is_same (whole_of lower) (whole_of upper) then lower else halves lower upper

-- no page of a block of this size is among those numbered from one number to below another
abbrev pub lies_apart : ℕ → ℕ → ℕ → Bool
lies_apart size from to = nat_le size from || nat_le to from

-- each page of a block of this size is among them
abbrev pub lies_inside : ℕ → ℕ → ℕ → Bool
lies_inside size from to = from == 0 && nat_le size to

-- a block of 2 ^ k pages with the pages numbered from one number to below another set to a permission
unfoldable pub block_set : ℕ → BlockView → ℕ → ℕ → Perm → BlockView
block_set zero block from to perm = if lies_apart 1 from to then block else whole perm
block_set (suc k) block from to perm =
    if lies_apart (2 ^ suc k) from to then block
    else if lies_inside (2 ^ suc k) from to then whole perm
    else joined (block_set k (lower_of block) from to perm) (block_set k (upper_of block) (from - 2 ^ k) (to - 2 ^ k) perm)

-- page n is one of them
abbrev pub is_among : ℕ → ℕ → ℕ → Bool
is_among from to n = nat_le from n && nat_lt n to

-- what a block counts
abbrev pub tally_of : BlockView → Tally
tally_of block = record { whole = whole_of block; blocks = blocks_in block }

-- what a block with halves that count so much counts
abbrev pub joined_tally : Tally → Tally → Tally
joined_tally lower upper =
    if is_same lower.whole upper.whole then lower else record { whole = None; blocks = lower.blocks + upper.blocks }

-- the permission is one that is looked for
abbrev pub is_sought : Sought → Perm → Bool
is_sought Unmapped perm = level perm == 0
is_sought Mapped perm = nat_lt 0 (level perm)

abbrev pub first_some : Option ℕ → Option ℕ → Option ℕ
first_some None b = b
first_some (Some n) b = Some n

-- the first page of a block of 2 ^ k pages that is numbered from one number to below another, and whose permission is looked for
abbrev pub first_in : Sought → BlockView → ℕ → ℕ → ℕ → Option ℕ
first_in sought (whole perm) k from to =
    if lies_apart (2 ^ k) from to then None else if is_sought sought perm then Some from else None
first_in sought (halves lower upper) k from to =
    if lies_apart (2 ^ k) from to then None
    else first_some (first_in sought lower (k - 1) from to) (option_map (λ n. 2 ^ (k - 1) + n) (first_in sought upper (k - 1) (from - 2 ^ (k - 1)) (to - 2 ^ (k - 1))))
