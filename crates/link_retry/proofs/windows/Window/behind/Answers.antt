use Rattle.std.proofs.Common.{arith, rules}
use Rattle.link_retry.proofs.Moving.{moved, moved-far}
use Rattle.link_retry.proofs.windows.Window.behind.Goals as goal

pub returns-then-past-gt63 : goal.returns-then-past-gt63
returns-then-past-gt63 c = moved-far c.args.self c.args.base (search rules) (omega (arith, c.if-past-gt63.true, c.requires))

pub returns : goal.returns
returns c = moved c.args.self c.args.base c.requires
