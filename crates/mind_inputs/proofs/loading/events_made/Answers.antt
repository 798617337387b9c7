use Rattle.std.proofs.Common.{◌∙◌}
use Rattle.mind_inputs.proofs.Made.{built-as}
use Rattle.mind_inputs.proofs.loading.events_made.Goals as goal

pub returns-in-Ok-clause-built : goal.returns-in-Ok-clause-built
returns-in-Ok-clause-built c = built-as c.args.plan.now c.args.count c.args.seed c.from_vec.result (c.from_vec.ensures ∙ c.in-Ok.ensures.events)
