-- The exit statuses of the process.
use Rattle.std.specs.Prelude.{ℕ}
use Rattle.mind_top.specs.declared.statuses.Status.{Status}
use Rattle.mind_top.specs.declared.statuses.Status.TheVariants.{Done, Usage, Malformed, ReadFault, WriteFault, NoMemory, NotARun, Spent}

abbrev pub code_of : Status → ℕ
code_of Done = 0
code_of Usage = 1
code_of Malformed = 2
code_of ReadFault = 3
code_of WriteFault = 4
code_of NoMemory = 5
code_of NotARun = 6
code_of Spent = 7
