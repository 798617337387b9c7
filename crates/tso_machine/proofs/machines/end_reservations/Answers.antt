use Rattle.std.proofs.Common.{◌∙◌, ap, slice_set, arith}
use Rattle.std.proofs.lemmas.List.Edits.{map_over_more}
use Rattle.tso_machine.specs.Step.{thread_off}
use Rattle.tso_machine.proofs.machines.end_reservations.Goals as goal

pub loop-i-preserved : goal.loop-i-preserved
loop-i-preserved c =
    ap (λ thread. slice_set c.loop-i.harts.items c.loop-i.i thread) c.end_reservation.ensures
    ∙ map_over_more (thread_off c.args.granule) c.args.harts.now.items c.loop-i.harts.items c.loop-i.i c.index_mut.result.now (omega (arith, c.args.harts.now.ok.0)) c.loop-i.invariant c.index_mut.ensures.value
