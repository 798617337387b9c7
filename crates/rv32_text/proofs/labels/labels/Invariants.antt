use Rattle.std.proofs.Common.{◌≡◌, ◌+◌, ◌≤◌, ℕ, List, length}
use Rattle.std.specs.Str.Lines.{lines}
use Rattle.std.specs.Option.{option_or}
use Rattle.rv32_text.specs.Found.{found_in}
use Rattle.rv32_text.specs.Label.{defined_from}
use Rattle.rv32_text.proofs.labels.labels.Given as goal

abbrev pub invariant-loop-rest : goal.invariant-loop-rest
invariant-loop-rest l = record {
  same : (name : List ℕ) → option_or (found_in l.labels name) (defined_from (l.line + 1) l.items (lines l.rest) name) ≡ defined_from 1 0 (lines l.text) name;
  consumed : l.line + length l.rest ≤ length l.text;
  fewer : l.items ≤ l.line;
}

abbrev pub decreases-loop-rest : goal.decreases-loop-rest
decreases-loop-rest l = length l.rest
