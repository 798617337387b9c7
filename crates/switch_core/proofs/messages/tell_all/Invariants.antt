use Rattle.std.proofs.Common.{◌≡◌, ◌++◌, map, take}
use Rattle.wire_msg.specs.declared.msgs.Msg.TheVariants.{Inv}
use Rattle.switch_core.specs.Switch.{to_blade}
use Rattle.switch_core.proofs.messages.tell_all.Given as goal

abbrev pub invariant-loop-cast : goal.invariant-loop-cast
invariant-loop-cast l =
    l.out.items ≡ l.initial.out.items ++ map (λ cast. to_blade cast.blade (Inv l.number l.range l.asked)) (take l.cast-index l.cast-items)
