use Rattle.std.proofs.Common.{subst, arith}
use Rattle.range_translate.proofs.SmallestLaw.{IsBlockView}
use Rattle.range_translate.proofs.TableFacts.{IsTable-put}
use Rattle.range_translate.proofs.tables.Table.put_outlier.Goals as goal

pub invariant_of-self : goal.invariant_of-self
invariant_of-self c = let i = c.self.invariant in
    (IsTable-put _ c.args.outlier _ i.0 c.put.ensures.items (omega (arith, c.put.ensures.len, c.put.new.outliers.ok.0, c.if-len-self.false, c.len.ensures)) (subst IsBlockView c.range.view_is c.range.invariant) c.requires.fits, omega (arith, i.1, c.put.ensures.capacity))

pub returns-clause-table : goal.returns-clause-table
returns-clause-table c = let i = c.self.invariant in
    IsTable-put _ c.args.outlier _ i.0 c.put.ensures.items (omega (arith, c.put.ensures.len, c.put.new.outliers.ok.0, c.if-len-self.false, c.len.ensures)) (subst IsBlockView c.range.view_is c.range.invariant) c.requires.fits
