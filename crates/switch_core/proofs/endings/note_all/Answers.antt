use Rattle.std.proofs.Common.{◌++◌, ◌∙◌, ap}
use Rattle.switch_core.specs.Handling.{noted_end}
use Rattle.switch_core.proofs.Answering.{noted-more}
use Rattle.switch_core.proofs.endings.note_all.Goals as goal

pub loop-i-preserved : goal.loop-i-preserved
loop-i-preserved c =
    c.in_ok-note_end.ensures.ok ∙ ap (λ ns. ns ++ noted_end c.entry-entry.result) c.loop-i.invariant
    ∙ noted-more c.args.log.now.notes c.args.directory.now.entries c.loop-i.i c.entry-entry.result c.entry-entry.ensures.entry
