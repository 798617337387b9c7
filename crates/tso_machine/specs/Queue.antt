-- The machine's commands in their order, and which of them were taken.
use Rattle.std.specs.Prelude.{◌≡◌, ℕ, suc, ◌≤◌, ◌==◌, true, List, [], ◌∷◌, length, take, drop, slice_get, Option, Some, None, is_some, option_and_then, if◌then◌else◌}
use Rattle.flat_memory.specs.FlatMemory.{zeroed}
use Rattle.mind_base.specs.declared.commands.Command.{Command}
use Rattle.mind_base.specs.declared.commands.Command.TheVariants.{Map, Unmap, Protect, Migrate}
use Rattle.mind_base.specs.declared.commands.Outcome.{Outcome}
use Rattle.tso_machine.specs.State.{Taken}
use Rattle.tso_machine.specs.Commands.{is_change, next_command}

-- commands, and those of them that were taken
pub record CommandQueueView : Type 0 where
  pub commands : List Command
  pub taken : List Taken

-- the commands that these outcomes say were taken, numbered from n on
abbrev pub taken_commands : ℕ → List (Option Outcome) → List Taken
taken_commands n [] = []
taken_commands n (None ∷ outcomes) = taken_commands (suc n) outcomes
taken_commands n (Some outcome ∷ outcomes) = record { index = n; outcome = outcome } ∷ taken_commands (suc n) outcomes

-- there is an outcome for each of the first commands that is a change, and none for a migrate
abbrev pub AreMarked : List (Option Outcome) → List Command → Type 0
AreMarked [] commands = Unit {0}
AreMarked (outcome ∷ outcomes) [] = ⊥
AreMarked (outcome ∷ outcomes) (command ∷ commands) = (is_some outcome ≡ is_change command) × AreMarked outcomes commands

-- there is room for the outcome of each command, and those before number next are marked
pub record IsPassed (commands : List Command) (outcomes : List (Option Outcome)) (next : ℕ) : Type 0 where
  pub room : length outcomes ≡ length commands
  pub within : next ≤ length commands
  pub marked : AreMarked (take next outcomes) commands

-- the first of these commands, where there is one, is a change
abbrev pub StartsWithChange : List Command → Type 0
StartsWithChange [] = Unit {0}
StartsWithChange (command ∷ commands) = is_change command ≡ true

-- and the command with number next, where there is one, is a change
pub record IsQueue (commands : List Command) (outcomes : List (Option Outcome)) (next : ℕ) : Type 0 where
  pub passed : IsPassed commands outcomes next
  pub stands : StartsWithChange (drop next commands)

-- the command with this number, if it is next
abbrev pub command_if_next : CommandQueueView → ℕ → Option Command
command_if_next queue index =
    option_and_then (λ next. if next == index then slice_get queue.commands index else None) (next_command queue.commands queue.taken)

-- the bytes of memory after an accepted command
abbrev pub bytes_after : Command → (ℕ → ℕ → ℕ) → ℕ → ℕ → ℕ
bytes_after (Map span perm) byte = zeroed byte span
bytes_after (Unmap span) byte = byte
bytes_after (Protect span perm) byte = byte
bytes_after (Migrate range memory) byte = byte
