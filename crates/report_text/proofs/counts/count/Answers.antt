use Rattle.std.proofs.Common.{◌∙◌, sym, arith}
use Rattle.report_text.specs.Counts.{is_note_of}
use Rattle.report_text.proofs.Tallies.{count-passed, count-failed}
use Rattle.report_text.proofs.counts.count.Goals as goal
use Rattle.report_text.proofs.counts.count.Goals.{then-counts_as, else-counts_as}

pub loop-i-preserved : goal.loop-i-preserved
loop-i-preserved c =
    elim c.if-counts_as.branch [
      | then-counts_as w ↦ (let more = count-passed (is_note_of c.args.kind) c.args.log.now.notes c.loop-i.i c.get.result c.get.ensures (sym c.counts_as.ensures ∙ w.if-counts_as.true) in (omega arith, omega arith))
      | else-counts_as w ↦ (let more = count-failed (is_note_of c.args.kind) c.args.log.now.notes c.loop-i.i c.get.result c.get.ensures (sym c.counts_as.ensures ∙ w.if-counts_as.false) in (omega arith, omega arith))
    ]
