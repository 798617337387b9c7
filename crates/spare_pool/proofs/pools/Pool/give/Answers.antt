use Rattle.std.proofs.Common.{◌≡◌, ◌+◌, ◌^◌, ◌≤◌, ◌↔◌, ◌⊎◌, Contains, subst, sym, length, true, ap, ◌∙◌, arith}
use Rattle.std.proofs.lemmas.List.{with_items_is}
use Rattle.spare_pool.specs.Pool.{PoolView, InRun}
use Rattle.spare_pool.proofs.Pages.{pages_with}
use Rattle.spare_pool.proofs.PoolLemmas.{pool_of, IsPool-written, with_run-pool_of, Written-seen}
use Rattle.spare_pool.proofs.pools.Pool.give.Goals as goal

pub returns-clause-given : goal.returns-clause-given
returns-clause-given c =
    let len : length c.mark_run.new.marks ≡ c.self.inside.free.len = omega (arith, c.mark_run.auto.marks, c.as_mut_slice.ensures.len) in
    let inside : c.args.first + 2 ^ c.args.log ≤ length c.self.inside.free.items = omega (arith, c.requires.inside, ap (λ (p : PoolView). p.pages) c.self.view_is) in
    ap pool_of (with_items_is c.self.inside.free c.mark_run.new.marks len)
    ∙ with_run-pool_of _ c.self.inside.free.items c.mark_run.new.marks c.args.log c.args.first c.self.view_is inside
    (Written-seen _ _ _ _ _ _ true c.as_mut_slice.ensures.value c.size_of_run-size.ensures c.mark_run.ensures)

pub returns-clause-pool : goal.returns-clause-pool
returns-clause-pool c =
    IsPool-written _ _ _ _ (with_items_is c.self.inside.free c.mark_run.new.marks (omega (arith, c.mark_run.auto.marks, c.as_mut_slice.ensures.len))) c.mark_run.auto.marks c.as_mut_slice.ensures.value c.self.invariant

pub returns-clause-pages : goal.returns-clause-pages
returns-clause-pages c = λ page. subst (λ (p : PoolView). Contains p.free page ↔ (Contains c.args.self.now.free page ⊎ InRun c.args.log c.args.first page))
    (sym (returns-clause-given c)) (pages_with c.args.self.now c.args.log c.args.first page)
