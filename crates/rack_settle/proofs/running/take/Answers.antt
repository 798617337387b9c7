use Rattle.std.proofs.Common.{subst, sym}
use Rattle.std.specs.Prelude.{OnOk}
use Rattle.rack_core.specs.Calls.{Notes}
use Rattle.rack_core.specs.Noted.{AreInPlace}
use Rattle.rack_settle.proofs.running.take.Goals as goal

pub returns-then-is_settling-clause-places : goal.returns-then-is_settling-clause-places
returns-then-is_settling-clause-places c =
    subst (λ e. OnOk c.settle.result (Notes (AreInPlace c.args.rack.now.plan e) c.args.log.now.notes c.settle.new.log.notes)) (sym (c.is_settling.ensures.0 c.if-is_settling.true)) c.settle.ensures.places
