use Rattle.std.proofs.Common.{◌≡◌, Some, length, sym, subst}
use Rattle.std.specs.List.{slice_get}
use Rattle.region_directory.specs.Directory.{DirectoryView}
use Rattle.region_directory.specs.Entry.{with_busy}
use Rattle.switch_core.specs.Invariant.{IsFitState, IsSwitch}
use Rattle.switch_core.specs.Switch.{SwitchView}
use Rattle.switch_core.proofs.Safety.{count-changed, entries-busy, switch-entries, waits-busy}
use Rattle.switch_core.proofs.switches.SwitchCore.begin.Goals as goal

pub invariant_of-self : goal.invariant_of-self
invariant_of-self c =
    let s : SwitchView = record { plan = c.self.inside.plan; table = c.self.inside.table; protect = c.self.inside.protect; directory = c.self.inside.directory; requests = c.self.inside.requests; last = c.self.inside.last } in
    let found : slice_get s.directory.entries c.args.i ≡ Some c.args.entry.now = subst (λ (v : SwitchView). slice_get v.directory.entries c.args.i ≡ Some c.args.entry.now) (sym c.self.view_is) c.requires.entry in
    let target : IsFitState (length s.plan.frames) c.args.busy.now.target = subst (λ (v : SwitchView). IsFitState (length v.plan.frames) c.args.busy.now.target) (sym c.self.view_is) c.requires.target in
    subst (λ (d : DirectoryView). IsSwitch (record s { directory = d; last = c.args.busy.now.number })) (sym c.begin.ensures.begun)
    (switch-entries s _ c.args.busy.now.number c.self.invariant (count-changed s c.args.i (with_busy (Some c.args.busy.now)) c.self.invariant) (entries-busy s c.args.i c.args.entry.now c.args.busy.now c.self.invariant found target)
    (waits-busy s c.args.i c.args.entry.now c.args.busy.now c.self.invariant found c.requires.waits))
