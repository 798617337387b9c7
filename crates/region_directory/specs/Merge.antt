-- How two entries of a directory that stand next to each other become one.
use Rattle.std.specs.Prelude.{ℕ, ◌+◌, ◌-◌, ◌%◌, ◌^◌, min, bit_or, Bool, ◌&&◌, ◌||◌, ◌==◌, nat_lt, List, ◌∷◌, ◌++◌, take, drop, Option, Some, None, is_none, slice_get, option_map, option_and_then, if◌then◌else◌}
use Rattle.mind_base.specs.Range.{RangeView}
use Rattle.mind_base.specs.declared.notes.State.{State}
use Rattle.mind_base.specs.declared.notes.State.TheVariants.{I, S, M}
use Rattle.region_directory.specs.Directory.{DirectoryView}
use Rattle.region_directory.specs.declared.entries.Entry.{Entry}

-- these blocks are the halves of one, the lower half first
abbrev pub are_halves : RangeView → RangeView → Bool
are_halves lower upper = lower.domain == upper.domain && lower.log == upper.log
    && lower.base % 2 ^ (lower.log + 1) == 0 && upper.base == lower.base + 2 ^ lower.log

-- the block of twice the size from the same page on
abbrev pub doubled : RangeView → RangeView
doubled range = record { domain = range.domain; base = range.base; log = range.log + 1 }

-- the set has no blade but perhaps the owner
abbrev pub has_only : ℕ → ℕ → Bool
has_only owner sharers = sharers == 0 || sharers == 2 ^ owner

-- The state of an entry that is made of two: M if either is, else S with the sharers of both, else I. None where
-- both name blades, unless both are S, or one is M and the other names its owner alone.
abbrev pub merged_state : State → State → Option State
merged_state I state = Some state
merged_state (S sharers) I = Some (S sharers)
merged_state (S sharers) (S others) = Some (S (bit_or sharers others))
merged_state (S sharers) (M owner) = if has_only owner sharers then Some (M owner) else None
merged_state (M owner) I = Some (M owner)
merged_state (M owner) (S sharers) = if has_only owner sharers then Some (M owner) else None
merged_state (M owner) (M other) = if owner == other then Some (M owner) else None

-- the entry of the block of both, with the hits of both up to the greatest 32-bit number
abbrev pub entry_of_both : Entry → Entry → State → Entry
entry_of_both lower upper state = record { range = doubled lower.range; state = state; busy = None; hits = min (lower.hits + upper.hits) (2 ^ 32 - 1) }

-- What two entries become. None unless they are the halves of one block of at most 2 ^ most pages (no block has more
-- than 2 ^ 9), neither has a transition, and their states go together.
abbrev pub merged_entry : ℕ → Entry → Entry → Option Entry
merged_entry most lower upper =
    if are_halves lower.range upper.range && nat_lt lower.range.log (min most 9) && is_none lower.busy && is_none upper.busy
    then option_map (entry_of_both lower upper) (merged_state lower.state upper.state)
    else None

-- what entry number i and the next one become; None where they may not become one, or there is no next one
abbrev pub merged_pair : ℕ → List Entry → ℕ → Option Entry
merged_pair most entries i =
    option_and_then (λ lower. option_and_then (merged_entry most lower) (slice_get entries (i + 1))) (slice_get entries i)

abbrev pub merge_of : DirectoryView → ℕ → Option Entry
merge_of directory i = merged_pair directory.most directory.entries i

-- the list in which an entry, if it is given, stands in the place of entry number i and the next one
abbrev pub with_merge : ℕ → Option Entry → List Entry → List Entry
with_merge i None entries = entries
with_merge i (Some whole) entries = take i entries ++ whole ∷ drop (i + 2) entries
