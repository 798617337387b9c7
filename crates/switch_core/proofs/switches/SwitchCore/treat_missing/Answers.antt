use Rattle.std.proofs.Common.{◌≡◌, true, ap, sym, ◌∙◌}
use Rattle.std.proofs.lemmas.Result.{on_ok_weaker}
use Rattle.switch_core.proofs.Going.{is_full, goes-full, full-test}
use Rattle.switch_core.proofs.switches.SwitchCore.treat_missing.Goals as goal

pub returns-then-is_full-clause-goes_on : goal.returns-then-is_full-clause-goes_on
returns-then-is_full-clause-goes_on c =
    let full : is_full c.args.self.now ≡ true = ap is_full (sym c.self.view_is) ∙ full-test _ _ (c.is_full.ensures.full.0 c.if-is_full.true) in
    on_ok_weaker c.make_room.result
    (λ goes start pass h. goes-full start pass c.args.self.now c.args.visit.now.stand c.args.out.now.items c.args.log.now.notes h c.make_room.new.self c.make_room.new.visit.stand c.make_room.new.out.items c.make_room.new.log.notes c.args.visit.now.request c.if-visit.false full (goes start pass h))
    c.make_room.ensures.goes_on
