use Rattle.std.proofs.Common.{◌≡◌, ◌+◌, ◌≤◌, Option, None, length, slice_get, refl, subst, sym, arith}
use Rattle.std.proofs.lemmas.List.{append-nil}
use Rattle.region_directory.specs.Merge.{with_merge}
use Rattle.region_directory.specs.declared.entries.Entry.{Entry}
use Rattle.bounded_split.specs.Epoch.{cold_at, merge_noted}
use Rattle.bounded_split.specs.Turns.{Turned}
use Rattle.bounded_split.proofs.Merging.{cold-last, past-end}
use Rattle.bounded_split.proofs.merges.merge_cold.Goals as goal

pub returns-then-i-count-clause-turned : goal.returns-then-i-count-clause-turned
returns-then-i-count-clause-turned g c =
    let d = c.args.directory.now in
    let log = c.args.log.now in
    let le : length d.entries ≤ c.args.i + 1 = omega (arith, c.len-count.ensures.len) in
    let none : cold_at c.args.policy.now.threshold d c.args.i ≡ None = cold-last c.args.policy.now.threshold d c.args.i (slice_get d.entries c.args.i) refl (past-end d.entries (c.args.i + 1) le) in
    subst (λ (o : Option Entry). Turned (with_merge c.args.i o d.entries) (merge_noted o) d d log log 0) (sym none)
    (record { changed = refl; notes = sym (append-nil log.notes); count = refl })
