use Rattle.std.proofs.Common.{◌∙◌, arith}
use Rattle.region_directory.proofs.ResizeLemmas.{put-one}
use Rattle.region_directory.proofs.changes.put_one.Goals as goal

pub returns-clause-entries : goal.returns-clause-entries
returns-clause-entries c =
    c.remove.ensures.items ∙ put-one c.args.entries.now.items c.args.i c.args.whole (omega (arith, c.args.entries.now.ok.0))
