use Rattle.std.proofs.Common.{◌+◌, ◌∷◌, ◌∙◌, ap, sym, arith, List, ℕ}
use Rattle.std.specs.Str.Lines.{lines}
use Rattle.std.proofs.lemmas.List.{take_rest}
use Rattle.plain_text.proofs.LineCuts.{lines_ended, lines_last}
use Rattle.plain_text.proofs.lines.split_line.Goals as goal

pub returns-then-end-text-clause-lines : goal.returns-then-end-text-clause-lines
returns-then-end-text-clause-lines c =
    lines_last c.args.text.now c.place_of-end.result c.place_of-end.ensures.place c.if-end-text.true c.requires
    ∙ ap (λ (rest : List ℕ). c.args.text.now ∷ lines rest) (sym (take_rest c.args.text.now c.place_of-end.result))

pub returns-clause-lines : goal.returns-clause-lines
returns-clause-lines c =
    rw (c.without_carriage_return.ensures, take_rest c.args.text.now (c.place_of-end.result + 1))
    (lines_ended c.args.text.now c.place_of-end.result c.place_of-end.ensures.place (omega arith))
