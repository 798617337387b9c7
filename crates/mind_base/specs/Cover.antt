-- How many aligned blocks of pages it takes to say the permissions.
use Rattle.std.specs.Prelude.{ℕ, ◌+◌, ◌-◌, ◌*◌, ◌/◌, ◌^◌, Bool, true, ◌&&◌, not, ◌==◌, nat_lt, zero, suc, if◌then◌else◌}
use Rattle.mind_base.specs.Page.{PageView}
use Rattle.mind_base.specs.declared.commands.Perm.{Perm}
use Rattle.mind_base.specs.declared.commands.Perm.TheVariants.{No, R, Rw}

-- how many of the numbers below n pass a test
unfoldable pub count_below : (ℕ → Bool) → ℕ → ℕ
count_below test zero = 0
count_below test (suc n) = count_below test n + (if test n then 1 else 0)

-- the sum of a number for each number below n
unfoldable pub sum_below : (ℕ → ℕ) → ℕ → ℕ
sum_below f zero = 0
sum_below f (suc n) = sum_below f n + f n

-- whether all numbers below n pass a test
unfoldable pub all_below : (ℕ → Bool) → ℕ → Bool
all_below test zero = true
all_below test (suc n) = all_below test n && test n

-- how much a permission allows: nothing, reading, reading and writing
abbrev pub level : Perm → ℕ
level No = 0
level R = 1
level Rw = 2

-- Block j of size 2 ^ k of a domain is the pages from j * 2 ^ k on. It is of one permission where all
-- its pages have that of its first.
unfoldable pub is_uniform : (PageView → Perm) → ℕ → ℕ → ℕ → Bool
is_uniform perm domain k j = all_below
    (λ n. level (perm (record { domain = domain; number = j * 2 ^ k + n })) == level (perm (record { domain = domain; number = j * 2 ^ k }))) (2 ^ k)

-- the block's parent is of one permission; the whole domain, of 2 ^ 20 pages, has no parent
unfoldable pub has_uniform_parent : (PageView → Perm) → ℕ → ℕ → ℕ → Bool
has_uniform_parent perm domain k j = nat_lt k 20 && is_uniform perm domain (k + 1) (j / 2)

-- the block is one of the cover: of one permission, which is not none, and its parent is not of one
unfoldable pub is_in_cover : (PageView → Perm) → ℕ → ℕ → ℕ → Bool
is_in_cover perm domain k j = is_uniform perm domain k j
    && nat_lt 0 (level (perm (record { domain = domain; number = j * 2 ^ k })))
    && not (has_uniform_parent perm domain k j)

-- the number of blocks in the cover, over all sizes and all 16 domains
unfoldable pub cover_of : (PageView → Perm) → ℕ
cover_of perm = sum_below (λ domain. sum_below (λ k. count_below (is_in_cover perm domain k) (2 ^ (20 - k))) 21) 16
