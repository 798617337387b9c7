use Rattle.mind_inputs.proofs.Chains.{built-of, all-same}
use Rattle.schedule_text.specs.Event.{IsEventOf}
use Rattle.mind_inputs.proofs.loading.events_from.Goals as goal

pub returns-then-all_built-clause-built : goal.returns-then-all_built-clause-built
returns-then-all_built-clause-built c =
    built-of c.from_vec.result c.as_slice.result.now c.in-Ok.events.items c.all_built.result c.from_vec.ensures c.as_slice.ensures.value c.all_built.ensures c.if-all_built.true

pub returns-then-all_built-clause-numbers : goal.returns-then-all_built-clause-numbers
returns-then-all_built-clause-numbers c = all-same (IsEventOf c.args.plan.now) c.from_vec.result c.in-Ok.events.items c.from_vec.ensures c.in-Ok.ensures.numbers
