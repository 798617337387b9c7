use Rattle.std.proofs.lemmas.List.{take_rest}
use Rattle.schedule_text.proofs.Cuts.{words_behind_blanks, no_word}
use Rattle.schedule_text.proofs.words.without_blanks.Goals as goal

pub returns-clause-words : goal.returns-clause-words
returns-clause-words c =
    rw (take_rest c.args.line.now c.blanks_at_front.result, c.blanks_at_front.ensures.place) (words_behind_blanks c.args.line.now)

pub returns-clause-first : goal.returns-clause-first
returns-clause-first c =
    rw (take_rest c.args.line.now c.blanks_at_front.result, c.blanks_at_front.ensures.place) (no_word c.args.line.now)
