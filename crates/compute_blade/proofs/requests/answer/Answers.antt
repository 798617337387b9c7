use Rattle.std.proofs.Common.{not, rules}
use Rattle.std.proofs.lemmas.Fn.{filter_same}
use Rattle.compute_blade.specs.Blade.{is_for}
use Rattle.compute_blade.proofs.requests.answer.Goals as goal

pub returns : goal.returns
returns c = filter_same _ (λ a. not (is_for c.args.page a)) _ (λ x b f' k. search rules) _ _ c.retain.ensures.filtered
