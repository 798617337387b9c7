use Rattle.std.proofs.Common.{◌∙◌, ap, slice_set, arith}
use Rattle.std.proofs.lemmas.List.Edits.{map_over_more}
use Rattle.tso_machine.specs.Commands.{thread_outside}
use Rattle.tso_machine.proofs.changes.end_reservations_in.Goals as goal

pub loop-i-preserved : goal.loop-i-preserved
loop-i-preserved c =
    ap (λ thread. slice_set c.loop-i.harts.items c.loop-i.i thread) c.end_reservation_in.ensures
    ∙ map_over_more (thread_outside c.args.span.now) c.args.harts.now.items c.loop-i.harts.items c.loop-i.i c.index_mut.result.now (omega (arith, c.args.harts.now.ok.0)) c.loop-i.invariant c.index_mut.ensures.value
