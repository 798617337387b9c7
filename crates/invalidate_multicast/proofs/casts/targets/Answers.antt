use Rattle.std.proofs.Common.{◌≡◌, ◌++◌, [], ◌∷◌, map, ap, sym, ◌∙◌, arith}
use Rattle.std.specs.List.{range_with_len, filter}
use Rattle.invalidate_multicast.specs.Blades.{has_blade, cast_to, casts_of}
use Rattle.invalidate_multicast.proofs.BladeLemmas.{casts-named, casts-other}
use Rattle.invalidate_multicast.proofs.casts.targets.Goals as goal
use Rattle.invalidate_multicast.proofs.casts.targets.Goals.{then-is_among+in_ok-push, else-is_among}

pub loop-blade-preserved : goal.loop-blade-preserved
loop-blade-preserved c =
    elim c.if-is_among.branch [
      | then-is_among+in_ok-push w ↦ ap (λ v. v.items) w.casts-is ∙ w.in_ok-push.ensures.items ∙ ap (λ xs. xs ++ cast_to c.loop-blade.blade ∷ []) c.loop-blade.invariant ∙ sym (casts-named c.args.blades c.loop-blade.blade (sym c.is_among.ensures ∙ w.if-is_among.true))
      | else-is_among w ↦ ap (λ v. v.items) w.casts-is ∙ c.loop-blade.invariant ∙ sym (casts-other c.args.blades c.loop-blade.blade (sym c.is_among.ensures ∙ w.if-is_among.false))
    ]

pub returns : goal.returns
unfolding casts_of
returns c =
    let done : c.loop-blade.blade ≡ 8 = omega arith in
    c.loop-blade.invariant ∙ ap (λ n. map cast_to (filter (has_blade c.args.blades) (range_with_len 0 n))) done
