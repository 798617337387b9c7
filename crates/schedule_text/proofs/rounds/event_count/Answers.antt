use Rattle.std.proofs.Common.{sym}
use Rattle.schedule_text.proofs.WrittenOut.{length_rounds}
use Rattle.schedule_text.proofs.rounds.event_count.Goals as goal

pub returns-in-Rounds-clause-count : goal.returns-in-Rounds-clause-count
returns-in-Rounds-clause-count c = rw c.in-Rounds.is (sym (length_rounds c.args.threads c.in-Rounds.count))
