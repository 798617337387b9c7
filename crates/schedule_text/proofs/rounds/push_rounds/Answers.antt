use Rattle.std.proofs.Common.{◌++◌, ◌∙◌, ap, List}
use Rattle.mind_base.specs.declared.events.Event.{Event}
use Rattle.schedule_text.specs.Round.{turns, rounds}
use Rattle.schedule_text.proofs.WrittenOut.{flat_more}
use Rattle.schedule_text.proofs.rounds.push_rounds.Goals as goal

pub loop-preserved : goal.loop-preserved
unfolding rounds
loop-preserved c =
    c.in_ok-push_round.ensures ∙ ap (λ (es : List Event). es ++ turns c.args.threads) c.loop.invariant ∙ flat_more (λ round. turns c.args.threads) c.args.events.now.items c.loop.counter
