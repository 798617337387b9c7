use Rattle.std.proofs.Common.{◌≡◌, ◌+◌, ◌<◌, length, get_or, take, ap, ◌∙◌, arith}
use Rattle.std.proofs.lemmas.List.Sums.{sum_by_more}
use Rattle.std.proofs.lemmas.Option.{get_or_from_slice_get, slice_get_within}
use Rattle.region_directory.specs.declared.entries.Entry.{Entry}
use Rattle.bounded_split.specs.Epoch.{total_hits}
use Rattle.bounded_split.proofs.epochs.total_hits.Goals as goal

pub loop-i-preserved : goal.loop-i-preserved
loop-i-preserved c =
    let es = c.args.directory.now.entries in
    let entry = c.entry.result in
    let at : get_or es c.loop-i.i entry ≡ entry = get_or_from_slice_get es c.loop-i.i entry entry c.entry.ensures.entry in
    let lt : c.loop-i.i < length es = slice_get_within es c.loop-i.i entry c.entry.ensures.entry in
    let hits : c.from-total.result ≡ entry.hits = c.from-total.ensures in
    let more : total_hits (take (c.loop-i.i + 1) es) ≡ total_hits (take c.loop-i.i es) + entry.hits = sum_by_more (λ (e : Entry). e.hits) es c.loop-i.i entry lt ∙ ap (λ (e : Entry). total_hits (take c.loop-i.i es) + e.hits) at in
    (omega (arith, more, hits, c.loop-i.invariant.0), omega (arith, hits, c.loop-i.invariant.1))
