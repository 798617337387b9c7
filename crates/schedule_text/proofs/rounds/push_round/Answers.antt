use Rattle.std.proofs.Common.{◌++◌, ◌∙◌, ap, List}
use Rattle.mind_base.specs.declared.events.Event.{Event}
use Rattle.schedule_text.specs.Round.{turn, turns}
use Rattle.schedule_text.proofs.WrittenOut.{flat_more}
use Rattle.schedule_text.proofs.rounds.push_round.Goals as goal

pub loop-hart-preserved : goal.loop-hart-preserved
unfolding turns
loop-hart-preserved c =
    c.in_ok-push_turn.ensures ∙ ap (λ (es : List Event). es ++ turn c.loop-hart.hart) c.loop-hart.invariant ∙ flat_more turn c.args.events.now.items c.loop-hart.hart
