use Rattle.std.proofs.Common.{◌≡◌, true, replicate, ap, ◌∙◌, length, rules, arith}
use Rattle.std.proofs.lemmas.List.{length-replicate}
use Rattle.spare_pool.specs.Pool.{all_free}
use Rattle.spare_pool.proofs.Places.{marked_from-set}
use Rattle.spare_pool.proofs.PoolLemmas.{pool_of, IsPool-pool_of}
use Rattle.spare_pool.proofs.pools.Pool.new.Goals as goal

pub returns-clause-fresh : goal.returns-clause-fresh
returns-clause-fresh c =
    let e : c.in_ok-free.free.items ≡ replicate c.args.pages true = search rules in
    let n = length-replicate c.args.pages true in
    let f = marked_from-set 0 c.args.pages in
    let same : pool_of (replicate c.args.pages true) ≡ all_free c.args.pages = cc in
    ap pool_of e ∙ same

pub returns-clause-pool : goal.returns-clause-pool
returns-clause-pool c = let e : c.in_ok-free.free.items ≡ replicate c.args.pages true = search rules in
    IsPool-pool_of _ (omega (arith, ap length e, length-replicate c.args.pages true))
