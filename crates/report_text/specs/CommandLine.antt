-- The lines of commands.
use Rattle.std.specs.Prelude.{ℕ, ◌+◌, codes, ◌==◌, List, [], ◌∷◌, ◌++◌, Option, Some, None, if◌then◌else◌}
use Rattle.std.specs.Option.{option_or}
use Rattle.mind_base.specs.declared.commands.Command.{Command}
use Rattle.mind_base.specs.declared.commands.Command.TheVariants.{Map, Unmap, Protect, Migrate}
use Rattle.mind_base.specs.declared.commands.Outcome.{Outcome}
use Rattle.mind_base.specs.declared.commands.Outcome.TheVariants as outcome
use Rattle.mind_base.specs.declared.notes.Note.{Note}
use Rattle.mind_base.specs.declared.notes.Note.TheVariants as note
use Rattle.mind_base.specs.OutcomeWord.{outcome_word}
use Rattle.tso_machine.specs.State.{Taken}
use Rattle.tso_machine.specs.Commands.{outcome_at}
use Rattle.std.specs.Fmt.{decimal}

abbrev pub command_word : Command → List ℕ
command_word (Map span perm) = codes "map"
command_word (Unmap span) = codes "unmap"
command_word (Protect span perm) = codes "protect"
command_word (Migrate range memory) = codes "migrate"

-- how the command with this number ended, or that it did not yet
abbrev pub outcome_text : Option Outcome → List ℕ
outcome_text (Some outcome) = outcome_word outcome
outcome_text None = codes "waiting"

-- the outcome in a note of the move of this number
abbrev pub moved_in : Note → ℕ → Option Outcome
moved_in (note.Moved number outcome) index = if number == index then Some outcome else None
moved_in other index = None

-- the outcome in the first note of the move of this number
abbrev pub moved_at : List Note → ℕ → Option Outcome
moved_at [] index = None
moved_at (note ∷ notes) index = option_or (moved_in note index) (moved_at notes index)

-- how a command ended: as the machine took it, else as its first move did
abbrev pub command_outcome : List Taken → List Note → ℕ → Option Outcome
command_outcome taken notes index = option_or (outcome_at taken index) (moved_at notes index)

-- the line of one command, by its number and how it ended
abbrev pub command_line : ℕ → Command → Option Outcome → List ℕ
command_line index command outcome =
    codes "command " ++ decimal index ++ codes " " ++ command_word command ++ codes " " ++ outcome_text outcome ++ codes "\n"

-- the lines of commands, numbered from this number on, by how each number ended
abbrev pub command_lines_from : (ℕ → Option Outcome) → ℕ → List Command → List ℕ
command_lines_from ended index [] = []
command_lines_from ended index (command ∷ commands) =
    command_line index command (ended index) ++ command_lines_from ended (index + 1) commands

-- the lines of all commands
abbrev pub command_lines : List Command → List Taken → List Note → List ℕ
command_lines commands taken notes = command_lines_from (command_outcome taken notes) 0 commands
