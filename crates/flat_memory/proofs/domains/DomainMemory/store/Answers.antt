use Rattle.std.proofs.Common.{ℕ, List, rules, refl, ap}
use Rattle.std.specs.BTreeMap.{BTreeMap}
use Rattle.mind_base.specs.Pending.{PendingView}
use Rattle.flat_memory.proofs.Stores.{Puts, stored-kept-at, stored-new-at}
use Rattle.flat_memory.proofs.domains.DomainMemory.store.Goals as goal

pub returns-in-Some-clause-ok : goal.returns-in-Some-clause-ok
returns-in-Some-clause-ok c =
    let store : PendingView = record { address = c.store.inside.address; size = c.store.inside.size; value = c.store.inside.value } in
    let h = c.get_mut.follows.holds c.write.new.self in
    rw (← c.store.view_is, ← c.self.view_is)
    (stored-kept-at c.self.inside.pages.entries _ store _ _ c.in-Some.page.now c.write.new.self _ c.number_at-number.ensures c.offset_at-offset.ensures c.store.invariant (rw c.to_le_bytes-word.ensures refl) (search rules) c.write.ensures (h.3 (search rules)).0)

pub returns-clause-ok : goal.returns-clause-ok
returns-clause-ok c =
    let store : PendingView = record { address = c.store.inside.address; size = c.store.inside.size; value = c.store.inside.value } in
    let pages = ap (λ (m : BTreeMap ℕ (List ℕ)). m.entries) c.get_mut.follows.holds-at-none in
    let puts : Puts c.self.inside.pages.entries c.insert.new.self.entries c.number_at-number.result c.write-2.new.self = λ q. rw (← pages) (c.in_ok-insert.ensures.updates.0 q) in
    rw (← c.store.view_is, ← c.self.view_is)
    (stored-new-at c.self.inside.pages.entries c.insert.new.self.entries store _ _ c.in_ok-page.page c.write-2.new.self _ c.number_at-number.ensures c.offset_at-offset.ensures c.store.invariant (rw c.to_le_bytes-word.ensures refl) (search rules) c.in_ok-page.ensures c.write-2.ensures puts)
