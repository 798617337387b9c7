use Rattle.std.proofs.Common.{refl}
use Rattle.mind_top.specs.Words.{Asm}
use Rattle.mind_top.proofs.Outside.{stays-any, stopped-stays}
use Rattle.mind_top.proofs.Ends.{nothing, stopped-call, asm-ended}
use Rattle.mind_top.proofs.instructions.answer_asm.Goals as goal

pub returns-in-Ok-clause-answers : goal.returns-in-Ok-clause-answers
returns-in-Ok-clause-answers g c words is =
    asm-ended (g.S.Store.holds c.args.store.now) words c.args.text.now c.in-Ok.image c.as_slice.result.now _ _ _ _ c.say.result is
    c.in-Ok.ensures.brings.0 c.as_slice.ensures c.say.ensures.says

pub returns-in-Err-clause-answers : goal.returns-in-Err-clause-answers
returns-in-Err-clause-answers g c words is =
    stopped-call (g.S.Store.holds c.args.store.now) words (Asm c.args.text.now) nothing _ _ _ _ c.in-Err.stopped c.stop.result (refl, refl) is
    c.in-Err.ensures.brings c.stop.ensures.stops

pub returns-in-Ok-clause-steady : goal.returns-in-Ok-clause-steady
returns-in-Ok-clause-steady g c = stays-any _ _ _ _ c.in-Ok.ensures.brings.1 c.say.result

pub returns-in-Err-clause-steady : goal.returns-in-Err-clause-steady
returns-in-Err-clause-steady g c = stopped-stays (g.S.Store.holds c.args.store.now) (Asm c.args.text.now) _ _ _ _ _ _ _ _ c.in-Err.stopped c.stop.result c.in-Err.ensures.brings c.stop.ensures.stops
