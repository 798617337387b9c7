use Rattle.std.proofs.Common.{◌∙◌, ◌+◌, ap, cond, length}
use Rattle.report_text.proofs.Keeping.{keeps-entered}
use Rattle.report_text.proofs.force.enter.Goals as goal

pub returns : goal.returns
returns c = λ blocks keeps. keeps-entered c.args.kept.now c.insert.new.self c.make_key.result c.args.range blocks c.make_key.ensures c.in_ok-insert.ensures.updates
    (c.in_ok-insert.ensures.len ∙ ap (λ t. length c.args.kept.now.keys + cond t 1 0) c.in_ok-insert.ensures.added) keeps
