use Rattle.std.proofs.Common.{ap, sym, ◌∙◌, slice_set, arith}
use Rattle.region_directory.specs.Entry.{in_state, with_busy, with_hits, plus_hits, with_change, changed_at}
use Rattle.region_directory.specs.declared.changes.Change.{Change}
use Rattle.region_directory.proofs.ChangeLemmas.{set-read}
use Rattle.region_directory.proofs.changes.change_one.Goals as goal

pub returns-in-State-clause-entries : goal.returns-in-State-clause-entries
returns-in-State-clause-entries c =
    set-read c.args.i (in_state c.in-State.state) c.args.entries.now.items c.index_mut-entry.result.now (omega (arith, c.args.entries.now.ok.0)) c.index_mut-entry.ensures.value
    ∙ ap (λ (change : Change). changed_at c.args.i (with_change change) c.args.entries.now.items) (sym c.in-State.is)

pub returns-in-Busy-clause-entries : goal.returns-in-Busy-clause-entries
returns-in-Busy-clause-entries c =
    set-read c.args.i (with_busy c.in-Busy.busy) c.args.entries.now.items c.index_mut-entry.result.now (omega (arith, c.args.entries.now.ok.0)) c.index_mut-entry.ensures.value
    ∙ ap (λ (change : Change). changed_at c.args.i (with_change change) c.args.entries.now.items) (sym c.in-Busy.is)

pub returns-in-Hits-clause-entries : goal.returns-in-Hits-clause-entries
returns-in-Hits-clause-entries c =
    let entry = c.index_mut-entry.result.now in
    ap (λ hits. slice_set c.args.entries.now.items c.args.i (with_hits hits entry)) c.saturating_add-entry.ensures
    ∙ set-read c.args.i (plus_hits c.in-Hits.count) c.args.entries.now.items entry (omega (arith, c.args.entries.now.ok.0)) c.index_mut-entry.ensures.value
    ∙ ap (λ (change : Change). changed_at c.args.i (with_change change) c.args.entries.now.items) (sym c.in-Hits.is)
