use Rattle.std.proofs.Common.{rules, not}
use Rattle.std.proofs.lemmas.Fn.{filter_same}
use Rattle.mind_base.specs.Range.{same_range}
use Rattle.range_translate.proofs.search.drop_range.Goals as goal

pub returns-clause-left : goal.returns-clause-left
returns-clause-left c = filter_same _ (λ o. not (same_range o.range c.args.range.now)) _ (λ x b f' k. search rules) _ _ c.retain.ensures.filtered
