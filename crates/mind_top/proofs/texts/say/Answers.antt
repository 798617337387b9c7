use Rattle.mind_top.proofs.Outside.{said-once}
use Rattle.mind_top.proofs.texts.say.Goals as goal

pub returns-in-Ok-clause-once : goal.returns-in-Ok-clause-once
returns-in-Ok-clause-once g c = said-once _ _ c.args.due c.in-Ok.ensures.once
