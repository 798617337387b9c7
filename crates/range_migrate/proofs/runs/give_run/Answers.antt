use Rattle.std.proofs.Common.{◌≡◌, Some, slice_get, refl, ap}
use Rattle.std.proofs.lemmas.Option.{slice_get_read}
use Rattle.spare_pool.specs.Pool.{PoolView}
use Rattle.range_migrate.proofs.Pools.{free-at, set-given, set-pages}
use Rattle.range_migrate.proofs.runs.give_run.Goals as goal

pub give-requires-clause-taken : goal.give-requires-clause-taken
give-requires-clause-taken c =
    let pools = c.args.pools.now.items in
    let pool = c.index_mut-pool.result.now in
    let e : slice_get pools c.args.memory ≡ Some pool = slice_get_read pools _ c.args.memory pool refl c.requires.there c.index_mut-pool.ensures.value in
    λ page r w. c.requires.taken page r ((free-at pools c.args.memory page pool e).1 w)

pub returns-clause-given : goal.returns-clause-given
returns-clause-given c =
    let pools = c.args.pools.now.items in
    let pool = c.index_mut-pool.result.now in
    let e : slice_get pools c.args.memory ≡ Some pool = slice_get_read pools _ c.args.memory pool refl c.requires.there c.index_mut-pool.ensures.value in
    set-given pools c.args.memory c.args.log c.args.first pool c.give.new.self c.requires.there e c.give.ensures.pages

pub returns-clause-pages : goal.returns-clause-pages
returns-clause-pages c =
    let pools = c.args.pools.now.items in
    let pool = c.index_mut-pool.result.now in
    let e : slice_get pools c.args.memory ≡ Some pool = slice_get_read pools _ c.args.memory pool refl c.requires.there c.index_mut-pool.ensures.value in
    set-pages pools c.args.memory pool c.give.new.self e (ap (λ (p : PoolView). p.pages) c.give.ensures.given)
