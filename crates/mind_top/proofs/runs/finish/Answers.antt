use Rattle.std.proofs.Common.{refl, inl, inr, Some}
use Rattle.mind_top.proofs.Ends.{run-said}
use Rattle.mind_top.proofs.Headlines.{run-writes}
use Rattle.mind_top.proofs.runs.finish.Goals as goal

pub returns-in-Ok-clause-ends : goal.returns-in-Ok-clause-ends
returns-in-Ok-clause-ends g c =
    run-said c.args.output c.args.loaded.now (record { log = c.args.log.now.notes; end = Some c.args.rack }) _ _ _ _ c.as_slice.result.now c.in-Ok.text.items c.say.result
    (run-writes c.args.output c.args.loaded.now c.args.log.now.notes (Some c.args.rack) c.args.rack c.in-Ok.text.items refl c.requires.ran c.requires.events c.in-Ok.ensures)
    c.as_slice.ensures.value c.say.ensures.says

pub returns-in-Err-clause-ends : goal.returns-in-Err-clause-ends
returns-in-Err-clause-ends g c = inl (refl, refl, refl, inr (c.args.rack, inl c.requires.ran))
