use Rattle.std.proofs.Common.{◌≡◌, ◌≢◌, sym, ap, subst}
use Rattle.std.proofs.lemmas.List.Elements.{All-from_recursion}
use Rattle.mind_base.specs.Range.{RangeView}
use Rattle.range_translate.specs.Order.{IsOrdered}
use Rattle.range_translate.specs.Table.{TableView}
use Rattle.range_translate.specs.declared.outliers.Outlier.{Outlier}
use Rattle.range_migrate.specs.Run.{AreRuns}
use Rattle.range_migrate.specs.Plan.{outside}
use Rattle.range_migrate.specs.Ending.{table_after}
use Rattle.range_migrate.proofs.InOrder.{IsNew}
use Rattle.range_migrate.proofs.Kept.{new_outside}
use Rattle.range_migrate.proofs.UnderWay.{after_home, runs-after, table-by_run}
use Rattle.range_migrate.proofs.endings.end_move.Goals as goal

pub returns-in_default-clause-runs : goal.returns-in_default-clause-runs
returns-in_default-clause-runs c =
    let table = c.args.table.now in
    let new_pools = c.remove_inside.new.pools.items in
    subst (λ (t : TableView). AreRuns table.homes t.outliers new_pools) (sym c.remove_inside.ensures.table)
    (after_home table.homes c.args.step.range table.outliers c.args.pools.now.items new_pools c.requires.under_way.runs c.remove_inside.ensures.freed)

pub put_outlier-requires-clause-apart : goal.put_outlier-requires-clause-apart
put_outlier-requires-clause-apart c =
    let range = c.outlier_of.result.range in
    let outliers = c.args.table.now.outliers in
    let same : range ≡ c.args.step.range = ap (λ (o : Outlier). o.range) c.outlier_of.ensures.outlier in
    let new : IsNew range (outside c.args.step.range outliers) = subst (λ (r : RangeView). IsNew r (outside c.args.step.range outliers)) (sym same) (new_outside c.args.step.range outliers) in
    All-from_recursion (λ (o : Outlier). o.range ≢ range) c.remove_inside.new.table.outliers (subst (λ (t : TableView). IsNew range t.outliers) (sym c.remove_inside.ensures.table) new)

pub returns-clause-table : goal.returns-clause-table
returns-clause-table c =
    table-by_run c.args.table.now c.remove_inside.new.table c.put_outlier.new.self c.args.step c.in-Some.first c.outlier_of.result c.in-Some.is c.remove_inside.ensures.table c.outlier_of.ensures.outlier c.in-Ok.ensures.put

pub returns-clause-runs : goal.returns-clause-runs
returns-clause-runs c =
    let table = c.args.table.now in
    let move = c.args.step in
    let new_pools = c.remove_inside.new.pools.items in
    let under_way = c.requires.under_way in
    let ended : c.put_outlier.new.self ≡ table_after move table = table-by_run table c.remove_inside.new.table c.put_outlier.new.self move c.in-Some.first c.outlier_of.result c.in-Some.is c.remove_inside.ensures.table c.outlier_of.ensures.outlier c.in-Ok.ensures.put in
    let ordered : IsOrdered (outside move.range table.outliers) = subst (λ (t : TableView). IsOrdered t.outliers) c.remove_inside.ensures.table c.remove_inside.ensures.valid.ordered in
    subst (λ (t : TableView). AreRuns table.homes t.outliers new_pools) (sym ended)
    (runs-after table c.args.pools.now.items new_pools move move.run ordered under_way.runs under_way.run under_way.own c.remove_inside.ensures.freed)
