use Rattle.std.proofs.Common.{◌≡◌, ℕ, ◌<◌, length, take, get_or, None}
use Rattle.report_text.specs.CommandLine.{moved_at}
use Rattle.report_text.proofs.moves.first_moves.Given as goal

abbrev pub invariant-loop-i : goal.invariant-loop-i
invariant-loop-i l = record {
  room : length l.moves.items ≡ l.count;
  first : (index : ℕ) → index < l.count → get_or l.moves.items index None ≡ moved_at (take l.i l.log.notes) index;
}
