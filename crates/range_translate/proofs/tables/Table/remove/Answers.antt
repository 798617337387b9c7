use Rattle.std.proofs.Common.{◌≤◌, Bool, not, length, ap, arith}
use Rattle.std.proofs.lemmas.List.Sums.{length-filter, count_by-le-length}
use Rattle.mind_base.specs.Range.{same_range}
use Rattle.range_translate.specs.declared.outliers.Outlier.{Outlier}
use Rattle.range_translate.proofs.TableFacts.{IsTable-filter}
use Rattle.range_translate.proofs.tables.Table.remove.Goals as goal

fewer : (c : goal.After-drop_range) → length c.drop_range.new.outliers.items ≤ length c.self.inside.outliers.items
fewer c =
    let test : Outlier → Bool = λ o. not (same_range o.range c.args.range.now) in
    omega (arith, ap length c.drop_range.ensures.left, length-filter test c.self.inside.outliers.items, count_by-le-length test c.self.inside.outliers.items)

pub invariant_of-self : goal.invariant_of-self
invariant_of-self c = let i = c.self.invariant in
    (IsTable-filter _ _ _ i.0 c.drop_range.ensures.left (fewer c), omega (arith, i.1, c.drop_range.ensures.capacity))

pub returns-clause-table : goal.returns-clause-table
returns-clause-table c = let i = c.self.invariant in IsTable-filter _ _ _ i.0 c.drop_range.ensures.left (fewer c)
