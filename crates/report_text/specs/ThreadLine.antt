-- The lines of threads.
use Rattle.std.specs.Prelude.{ℕ, ◌+◌, codes, ◌==◌, List, [], ◌∷◌, ◌++◌, length, if◌then◌else◌}
use Rattle.std.specs.List.{flat_map}
use Rattle.mind_base.specs.declared.ends.End.{End}
use Rattle.mind_base.specs.declared.ends.End.TheVariants.{Running, Exit, Fault}
use Rattle.mind_base.specs.declared.ends.FaultKind.{FaultKind}
use Rattle.mind_base.specs.declared.ends.FaultKind.TheVariants as fault
use Rattle.hart_effect.specs.Thread.{Thread}
use Rattle.std.specs.Fmt.{decimal}
use Rattle.report_text.specs.Digits.{hex2, hex8}

abbrev pub fault_word : FaultKind → List ℕ
fault_word fault.Fetch = codes "fetch"
fault_word fault.Illegal = codes "illegal"
fault_word fault.Target = codes "target"
fault_word fault.Align = codes "align"
fault_word fault.Load = codes "load"
fault_word fault.Store = codes "store"
fault_word fault.Call = codes "call"
fault_word fault.Break = codes "break"

-- where a thread stands
abbrev pub end_text : End → List ℕ
end_text (Running pc) = codes "running " ++ hex8 pc
end_text (Exit value) = codes "exit " ++ decimal value
end_text (Fault kind value pc) = codes "fault " ++ fault_word kind ++ codes " " ++ hex8 value ++ codes " at " ++ hex8 pc

-- the bytes that a thread put out, or a dash where there are none
abbrev pub output_text : List ℕ → List ℕ
output_text bytes = if length bytes == 0 then codes "-" else flat_map hex2 bytes

-- the line of one thread, by its number, where it stands and what it put out
abbrev pub thread_line_of : ℕ → End → List ℕ → List ℕ
thread_line_of number end output =
    codes "thread " ++ decimal number ++ codes " " ++ end_text end ++ codes " out " ++ output_text output ++ codes "\n"

abbrev pub thread_line : ℕ → Thread → List ℕ
thread_line number thread = thread_line_of number thread.end thread.output

-- the lines of threads, numbered from this number on
abbrev pub thread_lines_from : ℕ → List Thread → List ℕ
thread_lines_from number [] = []
thread_lines_from number (thread ∷ threads) = thread_line number thread ++ thread_lines_from (number + 1) threads

-- the lines of all threads
abbrev pub thread_lines : List Thread → List ℕ
thread_lines threads = thread_lines_from 0 threads
