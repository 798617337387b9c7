use Rattle.std.proofs.Common.{◌-◌, ◌≤◌, sym, ap, subst}
use Rattle.range_migrate.proofs.Pools.{run-there, base-is}
use Rattle.range_migrate.proofs.endings.first_of.Goals as goal

pub spare_base-requires : goal.spare_base-requires
spare_base-requires c =
    let o = c.args.outlier.now in
    run-there c.args.table.now.homes o.memory o.range.log _ c.requires.run.inside

pub overflow_sub-result : goal.overflow_sub-result
overflow_sub-result c =
    let o = c.args.outlier.now in
    subst (λ n. n ≤ o.first) (base-is c.args.table.now.homes o.memory c.spare_base.result c.spare_base.ensures.pages) c.requires.from

pub returns-clause-first : goal.returns-clause-first
returns-clause-first c =
    let o = c.args.outlier.now in
    ap (λ n. o.first - n) (sym (base-is c.args.table.now.homes o.memory c.spare_base.result c.spare_base.ensures.pages))
