use Rattle.std.proofs.Common.{◌≡◌, ◌+◌, ◌≤◌, [], length}
use Rattle.std.specs.Str.Lines.{lines}
use Rattle.std.specs.List.{AllByRecursion}
use Rattle.rv32_text.specs.Found.{found_in}
use Rattle.rv32_text.specs.Statement.{FitsItem}
use Rattle.rv32_text.specs.Meaning.{items_from}
use Rattle.rv32_text.proofs.reading.items_in.Given as goal

abbrev pub invariant-loop-rest : goal.invariant-loop-rest
invariant-loop-rest l = record {
  same : items_from (found_in l.labels) (l.line + 1) l.items.items (lines l.rest) ≡ items_from (found_in l.labels) 1 [] (lines l.text);
  fit : AllByRecursion FitsItem l.items.items;
  few : length l.items.items ≤ 16384;
  consumed : l.line + length l.rest ≤ length l.text;
}

abbrev pub decreases-loop-rest : goal.decreases-loop-rest
decreases-loop-rest l = length l.rest
