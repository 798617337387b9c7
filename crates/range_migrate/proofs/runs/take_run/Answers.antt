use Rattle.std.proofs.Common.{◌≡◌, Some, slice_get, refl, ap}
use Rattle.std.proofs.lemmas.Option.{slice_get_read}
use Rattle.spare_pool.specs.Pool.{PoolView}
use Rattle.range_migrate.proofs.Pools.{run-at, lowest-at, set-taken, set-pages}
use Rattle.range_migrate.proofs.runs.take_run.Goals as goal

pub unreachable-requires : goal.unreachable-requires
unreachable-requires c =
    let pools = c.args.pools.now.items in
    let pool = c.index_mut-pool.result.now in
    let e : slice_get pools c.args.memory ≡ Some pool = slice_get_read pools _ c.args.memory pool refl c.requires.there c.index_mut-pool.ensures.value in
    c.in_default.ensures.none c.requires.free.0 ((run-at pools c.args.memory c.args.log c.requires.free.0 pool e).1 c.requires.free.1)

pub returns-clause-lowest : goal.returns-clause-lowest
returns-clause-lowest c =
    let pools = c.args.pools.now.items in
    let pool = c.index_mut-pool.result.now in
    let e : slice_get pools c.args.memory ≡ Some pool = slice_get_read pools _ c.args.memory pool refl c.requires.there c.index_mut-pool.ensures.value in
    lowest-at pools c.args.memory c.args.log c.in-Some.first pool e c.in-Some.ensures.lowest

pub returns-clause-taken : goal.returns-clause-taken
returns-clause-taken c =
    let pools = c.args.pools.now.items in
    let pool = c.index_mut-pool.result.now in
    let e : slice_get pools c.args.memory ≡ Some pool = slice_get_read pools _ c.args.memory pool refl c.requires.there c.index_mut-pool.ensures.value in
    set-taken pools c.args.memory c.args.log c.in-Some.first pool c.take.new.self c.requires.there e c.in-Some.ensures.pages

pub returns-clause-pages : goal.returns-clause-pages
returns-clause-pages c =
    let pools = c.args.pools.now.items in
    let pool = c.index_mut-pool.result.now in
    let e : slice_get pools c.args.memory ≡ Some pool = slice_get_read pools _ c.args.memory pool refl c.requires.there c.index_mut-pool.ensures.value in
    set-pages pools c.args.memory pool c.take.new.self e (ap (λ (p : PoolView). p.pages) c.in-Some.ensures.taken)
