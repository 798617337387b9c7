use Rattle.std.proofs.Common.{◌∙◌, rules, tests}
use Rattle.std.proofs.lemmas.Iterator.{YieldsList-from_slice}
use Rattle.std.proofs.lemmas.Iterator.Search.{position_from_yields_List}
use Rattle.plain_text.specs.Blank.{is_blank}
use Rattle.plain_text.proofs.Places.{place_or_end}
use Rattle.plain_text.proofs.blanks.first_blank.Goals as goal

pub returns-clause-place : goal.returns-clause-place
returns-clause-place c =
    c.unwrap_or.ensures
    ∙ place_or_end is_blank c.args.line.now c.position.result (position_from_yields_List _ _ _ _ c.position.ensures.ran (YieldsList-from_slice c.args.line.now cc) (λ x b q k. search (rules, tests)))
