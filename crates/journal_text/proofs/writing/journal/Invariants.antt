use Rattle.std.proofs.Common.{◌≡◌, take}
use Rattle.journal_text.specs.Journal.{journal_text_of}
use Rattle.journal_text.proofs.writing.journal.Given as goal

abbrev pub invariant-loop-i : goal.invariant-loop-i
invariant-loop-i l = l.out.items ≡ journal_text_of (take l.i l.log.notes)
