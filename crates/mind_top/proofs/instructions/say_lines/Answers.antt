use Rattle.std.proofs.Common.{◌∙◌}
use Rattle.mind_top.proofs.Ends.{line-said}
use Rattle.mind_top.proofs.instructions.say_lines.Goals as goal

pub returns-in-Ok-clause-says : goal.returns-in-Ok-clause-says
returns-in-Ok-clause-says g c = line-said _ _ _ _ c.as_slice.result.now _ _ _ (c.as_slice.ensures.value ∙ c.in-Ok.ensures.text) c.say.ensures.says
