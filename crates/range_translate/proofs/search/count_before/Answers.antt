use Rattle.std.proofs.Common.{◌≡◌, ◌≢◌, length, get_or, false, sym, ap, ◌∙◌, arith}
use Rattle.std.proofs.lemmas.List.Elements.{recursion_from_All}
use Rattle.range_translate.specs.declared.outliers.Outlier.{Outlier}
use Rattle.range_translate.proofs.BlockOrder.{before, Parts, parts_of, parts_of_all}
use Rattle.range_translate.proofs.search.count_before.Goals as goal

parts-then : (c : goal.Then-not-comes_before) → Parts c.args.range.now c.args.outliers.now c.loop-i.i
parts-then c =
    let o = c.index-outliers-i in
    let next : before c.args.range.now (get_or c.args.outliers.now c.loop-i.i o.result) ≡ false
    = ap (before c.args.range.now) (sym o.is) ∙ sym c.if-not-comes_before.ensures in
    parts_of c.args.range.now c.args.outliers.now c.loop-i.i o.result c.requires.ordered (recursion_from_All (λ (other : Outlier). other.range ≢ c.args.range.now) c.args.outliers.now c.requires.apart)
    (omega arith) (λ k l. c.loop-i.invariant k o.result l) (λ _. next)

pub returns-then-not-comes_before-clause-before : goal.returns-then-not-comes_before-clause-before
returns-then-not-comes_before-clause-before c = (parts-then c).0

pub returns-then-not-comes_before-clause-after : goal.returns-then-not-comes_before-clause-after
returns-then-not-comes_before-clause-after c = (parts-then c).1

parts-after : (c : goal.After-loop-i) → Parts c.args.range.now c.args.outliers.now (length c.args.outliers.now)
parts-after c = parts_of_all c.args.range.now c.args.outliers.now c.loop-i.i c.requires.ordered (recursion_from_All (λ (other : Outlier). other.range ≢ c.args.range.now) c.args.outliers.now c.requires.apart)
    c.loop-i-test.false c.loop-i.invariant

pub returns-clause-before : goal.returns-clause-before
returns-clause-before c = (parts-after c).0

pub returns-clause-after : goal.returns-clause-after
returns-clause-after c = (parts-after c).1
