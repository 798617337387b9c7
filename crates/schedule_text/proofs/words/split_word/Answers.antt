use Rattle.schedule_text.proofs.Cuts.{split_at_blank}
use Rattle.schedule_text.proofs.words.split_word.Goals as goal

pub returns-clause-some : goal.returns-clause-some
returns-clause-some c =
    (split_at_blank c.args.line.now _ _ c.without_blanks-line.ensures.words c.without_blanks-line.ensures.first c.first_blank-end.ensures.place c.first_blank-end.ensures.within).some

pub returns-clause-none : goal.returns-clause-none
returns-clause-none c =
    (split_at_blank c.args.line.now _ _ c.without_blanks-line.ensures.words c.without_blanks-line.ensures.first c.first_blank-end.ensures.place c.first_blank-end.ensures.within).none

pub returns-clause-last : goal.returns-clause-last
returns-clause-last c =
    (split_at_blank c.args.line.now _ _ c.without_blanks-line.ensures.words c.without_blanks-line.ensures.first c.first_blank-end.ensures.place c.first_blank-end.ensures.within).last
