use Rattle.std.proofs.Common.{refl}
use Rattle.mind_top.proofs.Forms.{make-none, load-none}
use Rattle.mind_top.proofs.words.asked_by_four.Goals as goal

pub returns-in-None-clause-asked : goal.returns-in-None-clause-asked
returns-in-None-clause-asked c =
    make-none c.args.word.now c.args.rack.now c.args.third.now c.args.fourth.now (c.if-is_word-2.ensures.0 refl) c.in-None.ensures

pub returns-in-None-drawn_in-clause-asked : goal.returns-in-None-drawn_in-clause-asked
returns-in-None-drawn_in-clause-asked c =
    load-none c.args.word.now c.args.rack.now c.args.third.now c.args.fourth.now (c.if-is_word-3.ensures.0 refl) c.in-None-drawn_in.ensures
