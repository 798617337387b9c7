use Rattle.std.proofs.Common.{length}
use Rattle.journal_text.proofs.Prefix.{Reading}
use Rattle.journal_text.proofs.reading.notes_of.Given as goal

abbrev pub invariant-loop-rest : goal.invariant-loop-rest
invariant-loop-rest l = Reading l.lines l.log.notes l.rest l.line

abbrev pub decreases-loop-rest : goal.decreases-loop-rest
decreases-loop-rest l = length l.rest
