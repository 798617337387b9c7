use Rattle.std.proofs.Common.{◌<◌, ◌∙◌, length, sym, subst}
use Rattle.range_translate.specs.Block.{block_lies_inside}
use Rattle.range_translate.specs.Table.{TableView}
use Rattle.range_translate.specs.declared.outliers.Outlier.{Outlier}
use Rattle.range_migrate.proofs.Removing.{found, removal-step, removal-end, fewer-left}
use Rattle.range_migrate.proofs.endings.remove_inside.Goals as goal

pub remove_one-requires-clause-there : goal.remove_one-requires-clause-there
remove_one-requires-clause-there c =
    (found (λ (o : Outlier). block_lies_inside o.range c.args.range.now) c.loop-outlier.table.outliers c.in-Some.outlier (sym c.next_inside.ensures.found ∙ c.in-Some.is)).0

pub loop-outlier-smaller : goal.loop-outlier-smaller
loop-outlier-smaller c =
    let outliers = c.loop-outlier.table.outliers in
    let there = (found (λ (o : Outlier). block_lies_inside o.range c.args.range.now) outliers c.in-Some.outlier (sym c.next_inside.ensures.found ∙ c.in-Some.is)).0 in
    subst (λ (t : TableView). length t.outliers < length outliers) (sym c.remove_one.ensures.table) (fewer-left c.in-Some.outlier outliers c.next_inside.ensures.table.ordered there)

pub loop-outlier-preserved : goal.loop-outlier-preserved
loop-outlier-preserved c =
    removal-step c.args.range.now c.args.table.now c.args.pools.now.items c.loop-outlier.table c.remove_one.new.table c.loop-outlier.pools.items c.remove_one.new.pools.items c.in-Some.outlier
    c.loop-outlier.invariant c.next_inside.ensures.table.ordered (sym c.next_inside.ensures.found ∙ c.in-Some.is) c.remove_one.ensures.table c.remove_one.ensures.freed c.remove_one.ensures.pools

pub returns-clause-table : goal.returns-clause-table
returns-clause-table c =
    (removal-end c.args.range.now c.args.table.now c.args.pools.now.items c.loop-outlier.table c.loop-outlier.pools.items c.loop-outlier.invariant (sym c.next_inside.ensures.found ∙ c.in_default.is)).0

pub returns-clause-freed : goal.returns-clause-freed
returns-clause-freed c =
    (removal-end c.args.range.now c.args.table.now c.args.pools.now.items c.loop-outlier.table c.loop-outlier.pools.items c.loop-outlier.invariant (sym c.next_inside.ensures.found ∙ c.in_default.is)).1
