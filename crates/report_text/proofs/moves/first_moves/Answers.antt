use Rattle.std.proofs.Common.{◌∙◌, ap, sym, arith}
use Rattle.std.specs.Option.{option_or}
use Rattle.report_text.specs.CommandLine.{moved_in}
use Rattle.report_text.proofs.FirstMoves.{moved-more}
use Rattle.report_text.proofs.moves.first_moves.Goals as goal

pub loop-i-preserved : goal.loop-i-preserved
loop-i-preserved c = record {
  room = c.note_move.ensures.length ∙ c.loop-i.invariant.room;
  first = λ index below. c.note_move.ensures.first index (omega (arith, c.loop-i.invariant.room))
      ∙ ap (λ o. option_or o (moved_in c.get.result index)) (c.loop-i.invariant.first index below)
      ∙ sym (moved-more c.args.log.now.notes c.loop-i.i c.get.result index c.get.ensures);
}
