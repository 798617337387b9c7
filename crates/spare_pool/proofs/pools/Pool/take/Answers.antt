use Rattle.std.proofs.Common.{◌≡◌, ◌+◌, ◌^◌, ◌≤◌, ◌↔◌, Contains, subst, sym, length, false, ap, ◌∙◌, arith}
use Rattle.std.proofs.lemmas.List.{with_items_is}
use Rattle.spare_pool.specs.Pool.{PoolView, InRun}
use Rattle.spare_pool.proofs.Pages.{pages_without}
use Rattle.spare_pool.proofs.PoolLemmas.{pool_of, lowest_in, marked_in, IsPool-seen, IsPool-written, without_run-pool_of, Written-seen}
use Rattle.spare_pool.proofs.pools.Pool.take.Goals as goal

pub returns-in_default-clause-none : goal.returns-in_default-clause-none
returns-in_default-clause-none c = λ first h.
    c.in_default.ensures.none first (marked_in _ _ _ _ _ _ c.self.view_is c.as_slice.ensures.value c.size_of_run-size.ensures h)

pub returns-in_default-clause-pool : goal.returns-in_default-clause-pool
returns-in_default-clause-pool c = IsPool-seen _ _ c.self.view_is c.self.invariant

pub returns-clause-lowest : goal.returns-clause-lowest
returns-clause-lowest c =
    lowest_in _ _ _ _ _ _ c.self.view_is c.as_slice.ensures.value c.size_of_run-size.ensures c.in-Some.ensures.found c.in-Some.ensures.lowest

pub returns-clause-taken : goal.returns-clause-taken
returns-clause-taken c =
    let len : length c.mark_run.new.marks ≡ c.self.inside.free.len = omega (arith, c.mark_run.auto.marks, c.as_mut_slice.ensures.len) in
    let inside : c.in-Some.first + 2 ^ c.args.log ≤ length c.self.inside.free.items = omega (arith, c.in-Some.ensures.found.inside, ap length c.as_slice.ensures.value, c.size_of_run-size.ensures) in
    ap pool_of (with_items_is c.self.inside.free c.mark_run.new.marks len)
    ∙ without_run-pool_of _ c.self.inside.free.items c.mark_run.new.marks c.args.log c.in-Some.first c.self.view_is inside
    (Written-seen _ _ _ _ _ _ false c.as_mut_slice.ensures.value c.size_of_run-size.ensures c.mark_run.ensures)

pub returns-clause-pool : goal.returns-clause-pool
returns-clause-pool c =
    IsPool-written _ _ _ _ (with_items_is c.self.inside.free c.mark_run.new.marks (omega (arith, c.mark_run.auto.marks, c.as_mut_slice.ensures.len))) c.mark_run.auto.marks c.as_mut_slice.ensures.value c.self.invariant

pub returns-clause-pages : goal.returns-clause-pages
returns-clause-pages c = λ page. subst (λ (p : PoolView). Contains p.free page ↔ (Contains c.args.self.now.free page × (InRun c.args.log c.in-Some.first page → ⊥)))
    (sym (returns-clause-taken c)) (pages_without c.args.self.now c.args.log c.in-Some.first page)
