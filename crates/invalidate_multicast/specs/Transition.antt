-- Transitions of entries: what answers of blades make of them, and how they end.
use Rattle.std.specs.Prelude.{◌≡◌, ℕ, Bool, true, false, ◌==◌, List, map, Option, Some, None, option_map, if◌then◌else◌}
use Rattle.std.specs.List.{find}
use Rattle.mind_base.specs.Range.{RangeView}
use Rattle.mind_base.specs.declared.notes.State.{State}
use Rattle.region_directory.specs.declared.entries.Busy.{Busy}
use Rattle.region_directory.specs.declared.entries.Entry.{Entry}
use Rattle.region_directory.specs.Entry.{in_state, with_busy, plus_hits}
use Rattle.invalidate_multicast.specs.Blades.{has_blade, without_blade}
use Rattle.invalidate_multicast.specs.First.{first_changed}

-- a transition with this number is under way
abbrev pub is_number : ℕ → Option Busy → Bool
is_number number None = false
is_number number (Some busy) = busy.number == number

-- the transition when it no longer waits for a blade
abbrev pub without_waiting : ℕ → Busy → Busy
without_waiting blade busy =
    record { number = busy.number; waiting = without_blade busy.waiting blade; target = busy.target; for_room = busy.for_room }

-- what the answer of a blade to the transition with this number leaves of a transition
abbrev pub after_answer : ℕ → ℕ → Option Busy → Option Busy
after_answer number blade None = None
after_answer number blade (Some busy) = if busy.number == number then Some (without_waiting blade busy) else Some busy

-- The entries when a blade has answered the transition with this number: none that has the number waits
-- for the blade, and the count is added to the hits of the first of them.
abbrev pub acknowledged : ℕ → ℕ → ℕ → List Entry → List Entry
acknowledged number blade count entries = first_changed
    (λ entry. is_number number entry.busy)
    (plus_hits count)
    (map (λ entry. with_busy (after_answer number blade entry.busy) entry) entries)

-- a transition with this number is under way, and waits for the blade
abbrev pub WaitsFor : ℕ → ℕ → Option Busy → Type 0
WaitsFor number blade None = ⊥
WaitsFor number blade (Some busy) = (busy.number ≡ number) × (has_blade busy.waiting blade ≡ true)

-- a transition that waits for nobody is under way
abbrev pub is_answered : Option Busy → Bool
is_answered None = false
is_answered (Some busy) = busy.waiting == 0

-- the state that an entry comes to: its transition's target
abbrev pub target_of : Entry → Option Busy → State
target_of entry None = entry.state
target_of entry (Some busy) = busy.target

-- the entry in its target state, with no transition
abbrev pub finished : Entry → Entry
finished entry = with_busy None (in_state (target_of entry entry.busy) entry)

-- the block of the first entry that waits for nobody, and the state that it comes to
abbrev pub first_ended : List Entry → Option (RangeView × State)
first_ended entries = option_map
    (λ entry. (entry.range, target_of entry entry.busy))
    (find (λ entry. is_answered entry.busy) entries)

-- the entries when that one is in its target state
abbrev pub with_first_ended : List Entry → List Entry
with_first_ended entries = first_changed (λ entry. is_answered entry.busy) finished entries
