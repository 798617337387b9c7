use Rattle.std.proofs.Common.{arith}
use Rattle.std.proofs.lemmas.List.Edits.{map_over_more}
use Rattle.region_directory.specs.Entry.{with_hits}
use Rattle.region_directory.proofs.changes.reset_hits.Goals as goal

pub loop-i-preserved : goal.loop-i-preserved
loop-i-preserved c =
    (map_over_more (with_hits 0) c.args.entries.now.items c.loop-i.entries.items c.loop-i.i c.index_mut-entry.result.now (omega (arith, c.args.entries.now.ok.0)) c.loop-i.invariant.0 c.index_mut-entry.ensures.value, c.loop-i.invariant.1)
