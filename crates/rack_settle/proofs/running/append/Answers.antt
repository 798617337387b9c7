use Rattle.std.proofs.Common.{◌∙◌, ◌<◌, [], ◌∷◌, ◌++◌, ap, sym, take, arith}
use Rattle.std.proofs.lemmas.List.{append_assoc}
use Rattle.std.proofs.lemmas.Option.{slice_get_within}
use Rattle.tso_machine.proofs.Callers.{take-at}
use Rattle.rack_settle.proofs.Rans.{when-ok}
use Rattle.rack_settle.proofs.running.append.Goals as goal

pub loop-i-preserved : goal.loop-i-preserved
loop-i-preserved c =
    let inside = slice_get_within c.args.notes.now.notes c.loop-i.i c.get.result c.get.ensures in
    let room : 0 < c.loop-i.log.spare = omega (arith, inside, c.loop-i.invariant.1) in
    let ok = c.add.ensures.has_room room in
    let left = when-ok c.add.result ok c.add.ensures.spare in (
      when-ok c.add.result ok c.add.ensures.ok
          ∙ ap (λ ns. ns ++ c.get.result ∷ []) c.loop-i.invariant.0
          ∙ append_assoc c.args.log.now.notes (take c.loop-i.i c.args.notes.now.notes) (c.get.result ∷ [])
          ∙ ap (λ ns. c.args.log.now.notes ++ ns) (sym (take-at c.args.notes.now.notes c.loop-i.i c.get.result c.get.ensures)),
      omega (arith, left, c.loop-i.invariant.1),
    )
