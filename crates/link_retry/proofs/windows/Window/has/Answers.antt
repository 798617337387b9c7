use Rattle.std.proofs.Common.{arith, rules, sym}
use Rattle.link_retry.proofs.Moving.{has-not-before, has-not-past}
use Rattle.link_retry.proofs.windows.Window.has.Goals as goal
use Rattle.link_retry.proofs.windows.Window.has.Goals.{then-number-self-via-then-number-self, then-number-self-via-else-number-self+then-number-self-gt64}

pub returns-then-number-self : goal.returns-then-number-self
returns-then-number-self c = elim c.then-number-self.branch [
  | then-number-self-via-then-number-self w ↦ sym (has-not-before c.args.self c.args.number (omega (arith, w.if-number-self.true)))
  | then-number-self-via-else-number-self+then-number-self-gt64 w ↦ sym (has-not-past c.args.self c.args.number (search rules) (omega (arith, w.if-number-self-gt64.true)))
]
