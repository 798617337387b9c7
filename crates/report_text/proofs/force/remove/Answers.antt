use Rattle.std.proofs.Common.{◌∙◌, ◌+◌, ap, sym, cond, length}
use Rattle.report_text.proofs.Keeping.{keeps-without}
use Rattle.report_text.proofs.force.remove.Goals as goal

pub returns : goal.returns
returns c = λ blocks keeps. keeps-without c.args.kept.now c.remove.new.self c.make_key.result c.args.range blocks c.make_key.ensures c.remove.ensures.updates
    (ap (λ t. length c.remove.new.self.keys + cond t 1 0) (sym c.remove.ensures.test) ∙ c.remove.ensures.len) keeps
