use Rattle.std.proofs.Common.{◌++◌, ◌∙◌, ap, append_assoc, List, ℕ}
use Rattle.rack_gen.specs.declared.wires.Wire.{Wire}
use Rattle.rack_gen.specs.Wire.{wires_of_link, wires_between}
use Rattle.schedule_text.proofs.Callers.{flat_more}
use Rattle.rack_gen.proofs.wires.push_wires.Goals as goal

pub loop-number-preserved : goal.loop-number-preserved
unfolding wires_between
loop-number-preserved c =
    let four : ℕ → List Wire = λ n. wires_of_link c.args.one n ++ wires_of_link c.args.other n in
    c.in_ok-push_link-2.ensures ∙ ap (λ (ws : List Wire). ws ++ wires_of_link c.args.other c.loop-number.number) c.in_ok-push_link.ensures
    ∙ append_assoc _ (wires_of_link c.args.one c.loop-number.number) (wires_of_link c.args.other c.loop-number.number)
    ∙ ap (λ (ws : List Wire). ws ++ four c.loop-number.number) c.loop-number.invariant
    ∙ flat_more four c.args.wires.now.items c.loop-number.number
