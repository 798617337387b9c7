use Rattle.std.proofs.Common.{sym, subst}
use Rattle.region_directory.specs.Entry.{MeetsNone}
use Rattle.switch_core.specs.Switch.{SwitchView}
use Rattle.switch_core.proofs.switches.SwitchCore.enter.Goals as goal

pub insert-requires-clause-free : goal.insert-requires-clause-free
insert-requires-clause-free c =
    subst (λ (v : SwitchView). MeetsNone v.directory.entries c.args.range.now) (sym c.self.view_is) c.requires.free
