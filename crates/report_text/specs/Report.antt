-- The report of a run.
use Rattle.std.specs.Prelude.{ℕ, codes, List, ◌++◌}
use Rattle.mind_base.specs.declared.commands.Command.{Command}
use Rattle.mind_base.specs.declared.notes.Note.{Note}
use Rattle.hart_effect.specs.Thread.{Thread}
use Rattle.tso_machine.specs.State.{Taken}
use Rattle.report_text.specs.CommandLine.{command_lines}
use Rattle.report_text.specs.ThreadLine.{thread_lines}
use Rattle.report_text.specs.Counts.{counts_line}

-- the first line
abbrev pub first_line : List ℕ
first_line = codes "mind 1" ++ codes "\n"

-- the first line, a line for each thread, a line for each command, and the line of counts
abbrev pub report_text : List Command → List Thread → List Taken → List Note → List ℕ
report_text commands threads taken notes =
    first_line ++ thread_lines threads ++ command_lines commands taken notes ++ counts_line notes
