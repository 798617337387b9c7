use Rattle.std.proofs.Common.{◌≡◌, ◌+◌, ◌∙◌, ap, sym, take, length, subst}
use Rattle.report_text.specs.Force.{after_note, blocks_in_force}
use Rattle.report_text.specs.Kept.{HoldsKeys}
use Rattle.report_text.proofs.Peaks.{force-more, most-more}
use Rattle.report_text.proofs.force.peak_in.Goals as goal

pub loop-i-preserved : goal.loop-i-preserved
loop-i-preserved c =
    let keeps : HoldsKeys c.take_note.new.kept (blocks_in_force (take (c.loop-i.i + 1) c.args.log.now.notes))
    = subst (λ blocks. HoldsKeys c.take_note.new.kept blocks) (sym (force-more c.args.log.now.notes c.loop-i.i c.get.result c.get.ensures))
    (c.in_ok-take_note.ensures (blocks_in_force (take c.loop-i.i c.args.log.now.notes)) c.loop-i.invariant.0) in (
      keeps,
      most-more c.args.log.now.notes c.loop-i.i c.loop-i.most c.len.result c.max-most.result c.loop-i.invariant.1
          (c.len.ensures.len ∙ keeps.length) c.max-most.ensures,
    )
