use Rattle.std.proofs.Common.{◌≡◌, ◌+◌, ◌≤◌, [], length}
use Rattle.std.specs.Str.Lines.{lines}
use Rattle.std.specs.List.{AllByRecursion}
use Rattle.schedule_text.specs.Event.{IsEventIn}
use Rattle.schedule_text.specs.Schedule.{read_from}
use Rattle.schedule_text.proofs.schedules.read_lines.Given as goal

abbrev pub invariant-loop-rest : goal.invariant-loop-rest
invariant-loop-rest l = record {
  same : read_from l.sizes (l.line + 1) l.events.items (lines l.rest) ≡ read_from l.sizes 1 [] (lines l.bytes);
  numbers : AllByRecursion (IsEventIn l.sizes) l.events.items;
  few : length l.events.items ≤ 1000000;
  consumed : l.line + length l.rest ≤ length l.bytes;
}

abbrev pub decreases-loop-rest : goal.decreases-loop-rest
decreases-loop-rest l = length l.rest
