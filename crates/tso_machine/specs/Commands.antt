-- Which command is taken next, whether a buffered store holds it up, and what it does.
use Rattle.std.specs.Prelude.{ℕ, suc, ◌^◌, Bool, true, false, ◌==◌, ◌&&◌, ◌||◌, not, List, [], ◌∷◌, ◌++◌, map, slice_get, Option, Some, None, is_some, option_and_then, if◌then◌else◌}
use Rattle.std.specs.List.{list_any}
use Rattle.control_plane.specs.Outcome.{setting_of, outcome_of}
use Rattle.mind_base.specs.Inside.{stores_in, reservation_outside}
use Rattle.mind_base.specs.Permission.{permission_of}
use Rattle.mind_base.specs.Span.{SpanView}
use Rattle.mind_base.specs.declared.commands.Command.{Command}
use Rattle.mind_base.specs.declared.commands.Command.TheVariants.{Map, Unmap, Protect, Migrate}
use Rattle.mind_base.specs.declared.commands.Outcome.{Outcome}
use Rattle.mind_base.specs.declared.commands.Outcome.TheVariants as outcome
use Rattle.mind_base.specs.declared.plans.MapPlan.{MapPlan}
use Rattle.mind_base.specs.declared.plans.ThreadPlan.{ThreadPlan}
use Rattle.hart_effect.specs.Thread.{Thread}
use Rattle.tso_machine.specs.State.{Setup, Write, Zeros, Taken, State}

-- ---- which command is next

-- a map, an unmap or a protect; a migrate moves pages, of which the machine sees nothing
abbrev pub is_change : Command → Bool
is_change command = is_some (setting_of command)

-- how the command with this number ended, if it was taken
abbrev pub outcome_at : List Taken → ℕ → Option Outcome
outcome_at [] index = None
outcome_at (entry ∷ later) index = if entry.index == index then Some entry.outcome else outcome_at later index

-- the least number of a change that is not taken, among commands numbered from n on
abbrev pub next_from : ℕ → List Command → List Taken → Option ℕ
next_from n [] taken = None
next_from n (command ∷ commands) taken =
    if is_change command && not (is_some (outcome_at taken n)) then Some n else next_from (suc n) commands taken

-- the number of the command that is next: the least one of a map, unmap or protect that is not taken yet
abbrev pub next_command : List Command → List Taken → Option ℕ
next_command commands taken = next_from 0 commands taken

-- the pages that a command is about
abbrev pub command_span : Command → SpanView
command_span (Map span perm) = span
command_span (Unmap span) = span
command_span (Protect span perm) = span
command_span (Migrate range memory) = record { domain = range.domain; base = range.base; pages = 2 ^ range.log }

-- ---- what holds it up

-- the thread of a domain buffers a store in the span
abbrev pub buffers_in : SpanView → ℕ → Thread → Bool
buffers_in span domain thread = list_any (stores_in span domain) thread.buffer

-- some thread buffers a store in the span, each with the domain of its plan
abbrev pub is_buffered : SpanView → List ThreadPlan → List Thread → Bool
is_buffered span [] threads = false
is_buffered span (plan ∷ plans) [] = false
is_buffered span (plan ∷ plans) (thread ∷ threads) = buffers_in span plan.domain thread || is_buffered span plans threads

-- the command must wait for a buffered store in its span
abbrev pub is_held_up_with : Option MapPlan → List ThreadPlan → List Thread → Bool
is_held_up_with None plans threads = false
is_held_up_with (Some setting) plans threads = is_buffered setting.span plans threads

abbrev pub is_held_up : Command → List ThreadPlan → List Thread → Bool
is_held_up command plans threads = is_held_up_with (setting_of command) plans threads

-- ---- what it does

abbrev pub thread_outside : SpanView → Thread → Thread
thread_outside span thread = record thread { reserved = reservation_outside span thread.reserved }

-- no thread has a reservation inside the span
abbrev pub threads_outside : SpanView → List Thread → List Thread
threads_outside span threads = map (thread_outside span) threads

-- a map and an unmap, accepted or refused, take away the reservations inside their span
abbrev pub threads_after : Command → List Thread → List Thread
threads_after (Map span perm) threads = threads_outside span threads
threads_after (Unmap span) threads = threads_outside span threads
threads_after command threads = threads

-- an accepted map makes its pages zero
abbrev pub writes_after : Command → List Write → List Write
writes_after (Map span perm) writes = writes ++ Zeros span ∷ []
writes_after command writes = writes

-- an accepted command gives its span a permission, none by an unmap
abbrev pub perms_with : Option MapPlan → List MapPlan → List MapPlan
perms_with None perms = perms
perms_with (Some setting) perms = perms ++ setting ∷ []

abbrev pub perms_after : Command → List MapPlan → List MapPlan
perms_after command perms = perms_with (setting_of command) perms

abbrev pub is_fine : Outcome → Bool
is_fine outcome.Fine = true
is_fine outcome = false

-- the command with this number is taken and ends so
abbrev pub taken_as : Command → ℕ → Outcome → State → State
taken_as command index outcome state = record {
  threads = threads_after command state.threads;
  writes = if is_fine outcome then writes_after command state.writes else state.writes;
  perms = if is_fine outcome then perms_after command state.perms else state.perms;
  taken = state.taken ++ record { index = index; outcome = outcome } ∷ [];
}

-- how a command ends that is taken in this state
abbrev pub outcome_in_state : Setup → State → Command → Outcome
outcome_in_state setup state command =
    outcome_of command setup.plan.memories (permission_of state.perms) setup.plan.protect

-- a command takes effect, unless it must wait
abbrev pub taken_unless_held_up : Setup → State → ℕ → Command → Option State
taken_unless_held_up setup state index command =
    if is_held_up command setup.plan.threads state.threads
    then None
    else Some (taken_as command index (outcome_in_state setup state command) state)

-- the command with this number is taken, where it is next
abbrev pub after_command : Setup → State → ℕ → Option State
after_command setup state index =
    option_and_then (λ next. if next == index
    then option_and_then (taken_unless_held_up setup state index) (slice_get setup.commands index)
    else None) (next_command setup.commands state.taken)
