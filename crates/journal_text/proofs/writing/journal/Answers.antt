use Rattle.journal_text.proofs.Growth.{line-at}
use Rattle.journal_text.proofs.writing.journal.Goals as goal

pub loop-i-preserved : goal.loop-i-preserved
loop-i-preserved c = line-at c.args.log.now.notes c.loop-i.i c.get-note.result c.loop-i.out.items _ c.get-note.ensures c.loop-i.invariant c.in_ok-put_line.ensures
