use Rattle.link_retry.proofs.Moving.{joins}
use Rattle.link_retry.proofs.windows.Window.join.Goals as goal

pub returns : goal.returns
returns c = joins c.args.self.now c.args.other c.max-base.result c.behind.result c.behind-2.result c.max-base.ensures c.behind.ensures c.behind-2.ensures
