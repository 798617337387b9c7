use Rattle.std.proofs.Common.{◌≡◌, ◌++◌}
use Rattle.schedule_text.specs.Round.{turns}
use Rattle.schedule_text.proofs.rounds.push_round.Given as goal

abbrev pub invariant-loop-hart : goal.invariant-loop-hart
invariant-loop-hart l = l.events.items ≡ l.fn.events.items ++ turns l.hart
