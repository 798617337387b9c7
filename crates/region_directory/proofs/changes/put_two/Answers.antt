use Rattle.std.proofs.Common.{◌∙◌, arith}
use Rattle.region_directory.proofs.ResizeLemmas.{put-two}
use Rattle.region_directory.proofs.changes.put_two.Goals as goal

pub returns-clause-entries : goal.returns-clause-entries
returns-clause-entries c =
    c.put_at.ensures.entries ∙ put-two c.args.entries.now.items c.args.i c.args.lower c.args.upper (omega (arith, c.args.entries.now.ok.0))
