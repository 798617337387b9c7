use Rattle.std.proofs.Common.{◌+◌, ap, arith, rules}
use Rattle.link_retry.proofs.Moving.{passes, pass-fits}
use Rattle.link_retry.proofs.windows.Window.pass.Goals as goal

pub overflow_add-base-2 : goal.overflow_add-base-2
overflow_add-base-2 c = omega (arith, c.trailing_ones.ensures, pass-fits c.args.self (search rules) c.requires.base c.requires.numbers)

pub returns : goal.returns
returns c = passes c.args.self _ _ (search rules) (ap (λ t. c.args.self.base + 1 + t) c.trailing_ones.ensures) c.behind.ensures
