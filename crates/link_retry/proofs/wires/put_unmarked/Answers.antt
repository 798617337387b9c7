use Rattle.std.proofs.Common.{◌≡◌, ◌+◌, ◌++◌, ◌∷◌, [], length, true, false, sym, ap, ◌∙◌, arith, append_assoc, length-append}
use Rattle.link_retry.specs.Window.{has}
use Rattle.link_retry.proofs.Gaps.{gap-next, gap-none, filled}
use Rattle.link_retry.proofs.wires.put_unmarked.Goals as goal
use Rattle.link_retry.proofs.wires.put_unmarked.Goals.{then-not-has+in_ok-push, else-not-has}

pub returns-then-len-ge-CAPACITY-clause-ok : goal.returns-then-len-ge-CAPACITY-clause-ok
returns-then-len-ge-CAPACITY-clause-ok c =
    filled c.args.window c.args.wire.now.items c.loop-number.wire.items _ _ (omega (arith, c.loop-number-test.true, c.requires.from)) c.requires.fits c.loop-number.invariant.0
    (omega (arith, c.loop-number.invariant.1, c.len.ensures, c.if-len-ge-CAPACITY.true))

pub loop-number-preserved : goal.loop-number-preserved
loop-number-preserved c =
    let from = c.loop-number.auto.number in
    elim c.if-not-has.branch [
      | then-not-has+in_ok-push w ↦
          let not : has c.args.window c.loop-number.number ≡ false = cc in
          let items : c.if-not-has.wire.items ≡ c.loop-number.wire.items ++ c.loop-number.number ∷ [] = ap (λ v. v.items) w.wire-is ∙ w.in_ok-push.ensures.items in
          let longer : length c.if-not-has.wire.items ≡ length c.loop-number.wire.items + 1 = ap length items ∙ length-append c.loop-number.wire.items (c.loop-number.number ∷ []) in (
            items ∙ ap (λ xs. xs ++ c.loop-number.number ∷ []) c.loop-number.invariant.0
                ∙ append_assoc c.args.wire.now.items _ (c.loop-number.number ∷ [])
                ∙ ap (λ xs. c.args.wire.now.items ++ xs) (sym (gap-next c.args.window c.loop-number.number (omega (arith, from)) not)),
            omega (arith, longer, c.len.ensures, c.if-len-ge-CAPACITY.false),
          )
      | else-not-has w ↦
          let is : has c.args.window c.loop-number.number ≡ true = cc in
          let items : c.if-not-has.wire.items ≡ c.loop-number.wire.items = ap (λ v. v.items) w.wire-is in (
            items ∙ c.loop-number.invariant.0
                ∙ ap (λ xs. c.args.wire.now.items ++ xs) (sym (gap-none c.args.window c.loop-number.number (omega (arith, from)) is)),
            omega (arith, ap length items, c.loop-number.invariant.1),
          )
    ]
