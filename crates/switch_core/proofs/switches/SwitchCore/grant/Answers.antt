use Rattle.std.proofs.Common.{◌≡◌, Some, sym, subst}
use Rattle.std.specs.List.{slice_get}
use Rattle.switch_core.specs.Switch.{SwitchView}
use Rattle.switch_core.proofs.Safety.{switch-granted}
use Rattle.switch_core.proofs.switches.SwitchCore.grant.Goals as goal

pub invariant_of-self-2 : goal.invariant_of-self-2
invariant_of-self-2 c =
    let s : SwitchView = record { plan = c.self.inside.plan; table = c.self.inside.table; protect = c.self.inside.protect; directory = c.self.inside.directory; requests = c.self.inside.requests; last = c.self.inside.last } in
    let place : slice_get s.requests c.args.at ≡ Some c.args.r.now = subst (λ (v : SwitchView). slice_get v.requests c.args.at ≡ Some c.args.r.now) (sym c.self.view_is) c.requires.place in
    let found : slice_get s.directory.entries c.args.i ≡ Some c.args.entry.now = subst (λ (v : SwitchView). slice_get v.directory.entries c.args.i ≡ Some c.args.entry.now) (sym c.self.view_is) c.requires.entry in
    switch-granted s c.args.r.now c.args.at c.args.i c.args.entry.now c.granted_state-state.result c.set_state.new.self c.start.new.self
    c.self.invariant place found c.granted_state-state.ensures c.set_state.ensures.changed c.in_ok-start.ensures.ok
