use Rattle.std.proofs.Common.{◌≡◌, Some, IsSomeAnd, slice_get, refl, sym, subst}
use Rattle.std.proofs.lemmas.Option.{slice_get_read}
use Rattle.spare_pool.specs.Pool.{IsPool}
use Rattle.range_migrate.proofs.Pools.{run-at}
use Rattle.range_migrate.proofs.runs.has_run.Goals as goal

pub returns-clause-free : goal.returns-clause-free
returns-clause-free c =
    let pool = c.index-pools-memory.result in
    let e : slice_get c.args.pools.now c.args.memory ≡ Some pool = slice_get_read c.args.pools.now _ c.args.memory pool refl c.requires.there c.index-pools-memory.is in
    let f = c.fits.ensures.fits in (
      λ w. (let r = f.0 w in (r.0, (run-at c.args.pools.now c.args.memory c.args.log r.0 pool e).0 r.1)),
      λ w. f.1 (w.0, (run-at c.args.pools.now c.args.memory c.args.log w.0 pool e).1 w.1),
    )

pub returns-clause-pool : goal.returns-clause-pool
returns-clause-pool c =
    let pool = c.index-pools-memory.result in
    let e : slice_get c.args.pools.now c.args.memory ≡ Some pool = slice_get_read c.args.pools.now _ c.args.memory pool refl c.requires.there c.index-pools-memory.is in
    subst (λ o. IsSomeAnd o IsPool) (sym e) c.fits.ensures.pool
