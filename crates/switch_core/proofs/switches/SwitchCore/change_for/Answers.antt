use Rattle.switch_core.proofs.Passing.{others}
use Rattle.switch_core.proofs.switches.SwitchCore.change_for.Goals as goal

pub invalidate-requires-then-r-clause-others : goal.invalidate-requires-then-r-clause-others
invalidate-requires-then-r-clause-others c =
    others c.args.r.now.write c.args.r.now.blade c.args.entry.now.state c.requires.more
