use Rattle.std.proofs.Common.{arith}
use Rattle.link_retry.proofs.Moving.{keeps-one}
use Rattle.link_retry.proofs.windows.Window.keep.Goals as goal

pub returns : goal.returns
returns c = keeps-one c.args.self.now c.args.number (omega (arith, c.if-number-self.false)) (omega (arith, c.if-number-self-gt64.false))
