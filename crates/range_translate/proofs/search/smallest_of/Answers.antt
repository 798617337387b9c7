use Rattle.std.proofs.Common.{◌≡◌, ◌≤◌, ℕ, drop, Option, IfSome, IsTrue, subst, sym, ap, ◌∙◌, arith}
use Rattle.std.proofs.lemmas.List.Elements.{recursion_from_All}
use Rattle.mind_base.specs.Range.{in_range}
use Rattle.range_translate.specs.Place.{smallest_of, FitsOutlier}
use Rattle.range_translate.specs.declared.outliers.Outlier.{Outlier}
use Rattle.range_translate.proofs.Smallest.{smallest-has, has_page, any_page}
use Rattle.range_translate.proofs.search.smallest_of.Goals as goal

zero_from : (n : ℕ) → n ≤ 0 → n ≡ 0
zero_from n l = omega arith

pub returns-clause-has : goal.returns-clause-has
returns-clause-has c =
    let e : c.loop-left.best ≡ smallest_of c.args.outliers.now c.args.page =
    c.loop-left.invariant.1 ∙ ap (λ (n : ℕ). smallest_of (drop n c.args.outliers.now) c.args.page) (zero_from c.loop-left.left c.loop-left-test.false) in
    subst (λ (o : Option Outlier). IfSome o (λ x. IsTrue (in_range x.range c.args.page))) (sym e)
    (smallest-has (λ x. IsTrue (in_range x.range c.args.page)) c.args.outliers.now c.args.page (has_page c.args.outliers.now c.args.page))

pub returns-clause-fits : goal.returns-clause-fits
returns-clause-fits c =
    let e : c.loop-left.best ≡ smallest_of c.args.outliers.now c.args.page =
    c.loop-left.invariant.1 ∙ ap (λ (n : ℕ). smallest_of (drop n c.args.outliers.now) c.args.page) (zero_from c.loop-left.left c.loop-left-test.false) in
    subst (λ (o : Option Outlier). IfSome o FitsOutlier) (sym e)
    (smallest-has FitsOutlier c.args.outliers.now c.args.page (any_page FitsOutlier c.args.outliers.now c.args.page (recursion_from_All FitsOutlier c.args.outliers.now c.requires)))
