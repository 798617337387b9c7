-- How a command that changes permissions ends, and what it changes.
use Rattle.std.specs.Prelude.{ℕ, ◌+◌, Bool, not, ◌==◌, nat_lt, List, Option, Some, None, is_some, IsSome, unwrap_or, if◌then◌else◌}
use Rattle.mind_base.specs.Page.{PageView}
use Rattle.mind_base.specs.Span.{SpanView}
use Rattle.mind_base.specs.Home.{home_of}
use Rattle.mind_base.specs.Cover.{all_below, level, cover_of}
use Rattle.mind_base.specs.declared.commands.Perm.{Perm}
use Rattle.mind_base.specs.declared.commands.Perm.TheVariants.{No}
use Rattle.mind_base.specs.declared.commands.Command.{Command}
use Rattle.mind_base.specs.declared.commands.Command.TheVariants.{Map, Unmap, Protect, Migrate}
use Rattle.mind_base.specs.declared.commands.Outcome.{Outcome}
use Rattle.mind_base.specs.declared.commands.Outcome.TheVariants.{Fine, Unplaced, Overlap, Unmapped, Slots}
use Rattle.mind_base.specs.declared.plans.MapPlan.{MapPlan}
use Rattle.mind_base.specs.declared.plans.MemoryPlan.{MemoryPlan}
use Rattle.protect_table.specs.Protect.{ProtectView, changed, span_set}

-- whether each page of a run passes a test
abbrev pub all_in : SpanView → (PageView → Bool) → Bool
all_in span test = all_below (λ n. test (record { domain = span.domain; number = span.base + n })) span.pages

-- whether each page of the run has a home
abbrev pub are_placed : List MemoryPlan → SpanView → Bool
are_placed memories span = all_in span (λ page. is_some (home_of memories page))

-- whether each page of the run has a permission other than none
abbrev pub are_mapped : (PageView → Perm) → SpanView → Bool
are_mapped permissions span = all_in span (λ page. nat_lt 0 (level (permissions page)))

-- whether none of them has
abbrev pub are_unmapped : (PageView → Perm) → SpanView → Bool
are_unmapped permissions span = all_in span (λ page. level (permissions page) == 0)

-- a change of permissions is refused where the cover would pass the slots
abbrev pub outcome_in : (PageView → Perm) → ℕ → Outcome
outcome_in permissions slots = if nat_lt slots (cover_of permissions) then Slots else Fine

-- what a command sets: a run of pages and the permission that they get, none by an unmap; a command that moves pages
-- sets nothing
abbrev pub setting_of : Command → Option MapPlan
setting_of (Map span perm) = Some (record { span = span; perm = perm })
setting_of (Unmap span) = Some (record { span = span; perm = No })
setting_of (Protect span perm) = Some (record { span = span; perm = perm })
setting_of (Migrate range memory) = None

-- a command that moves pages changes no permission
abbrev pub IsChange : Command → Type 0
IsChange command = IsSome (setting_of command)

-- the permissions after an accepted command
abbrev pub permissions_with : Option MapPlan → (PageView → Perm) → PageView → Perm
permissions_with None permissions = permissions
permissions_with (Some setting) permissions = changed permissions setting.span setting.perm

abbrev pub permissions_after : Command → (PageView → Perm) → PageView → Perm
permissions_after command permissions = permissions_with (setting_of command) permissions

-- the table of permissions after an accepted command
abbrev pub protect_with : Option MapPlan → ProtectView → ProtectView
protect_with None table = table
protect_with (Some setting) table = span_set table setting.span setting.perm

abbrev pub protect_after : Command → ProtectView → ProtectView
protect_after command table = protect_with (setting_of command) table

-- why a command is refused, whatever slots there are: pages that are to be mapped have homes and no permission, and
-- those of an unmap or a protect have one
abbrev pub refusal_of_unmapped : SpanView → (PageView → Perm) → Option Outcome
refusal_of_unmapped span permissions = if are_mapped permissions span then None else Some Unmapped

abbrev pub refusal_of : Command → List MemoryPlan → (PageView → Perm) → Option Outcome
refusal_of (Map span perm) memories permissions =
    if not (are_placed memories span) then Some Unplaced
    else if not (are_unmapped permissions span) then Some Overlap
    else None
refusal_of (Unmap span) memories permissions = refusal_of_unmapped span permissions
refusal_of (Protect span perm) memories permissions = refusal_of_unmapped span permissions
refusal_of (Migrate range memory) memories permissions = None

-- The first outcome that fits, where the memory blades have these homes, the pages these permissions,
-- and the cover so many slots. How a move of pages ends is not said here.
abbrev pub outcome_with : Option MapPlan → (PageView → Perm) → ℕ → Outcome
outcome_with None permissions slots = Fine
outcome_with (Some setting) permissions slots = outcome_in (changed permissions setting.span setting.perm) slots

abbrev pub outcome_of : Command → List MemoryPlan → (PageView → Perm) → ℕ → Outcome
outcome_of command memories permissions slots =
    unwrap_or (refusal_of command memories permissions) (outcome_with (setting_of command) permissions slots)
