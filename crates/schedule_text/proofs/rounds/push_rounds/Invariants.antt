use Rattle.std.proofs.Common.{◌≡◌, ◌++◌}
use Rattle.schedule_text.specs.Round.{rounds}
use Rattle.schedule_text.proofs.rounds.push_rounds.Given as goal

abbrev pub invariant-loop : goal.invariant-loop
invariant-loop l = l.events.items ≡ l.fn.events.items ++ rounds l.threads l.counter
