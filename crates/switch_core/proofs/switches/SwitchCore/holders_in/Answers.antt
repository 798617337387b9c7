use Rattle.std.proofs.Common.{◌≡◌, ℕ, ◌^◌, ◌<◌, Some, length, sym, subst}
use Rattle.std.specs.List.{slice_get}
use Rattle.switch_core.specs.Invariant.{IsFitEntry}
use Rattle.switch_core.specs.Switch.{SwitchView}
use Rattle.switch_core.specs.Treating.{holders}
use Rattle.switch_core.proofs.Lists.{all-at}
use Rattle.switch_core.proofs.Safety.{fit-eight, holders-fit}
use Rattle.switch_core.proofs.switches.SwitchCore.holders_in.Goals as goal

pub holders-requires : goal.holders-requires
holders-requires c =
    let found : slice_get c.self.inside.directory.entries c.args.i ≡ Some c.args.entry.now = subst (λ (v : SwitchView). slice_get v.directory.entries c.args.i ≡ Some c.args.entry.now) (sym c.self.view_is) c.requires in
    let n = length c.self.inside.plan.frames in
    fit-eight n c.args.entry.now.state c.self.invariant.plan.blades.1 (all-at (IsFitEntry n) c.self.inside.directory.entries c.args.i c.args.entry.now c.self.invariant.entries found).state

pub returns-clause-fits : goal.returns-clause-fits
returns-clause-fits c =
    let found : slice_get c.self.inside.directory.entries c.args.i ≡ Some c.args.entry.now = subst (λ (v : SwitchView). slice_get v.directory.entries c.args.i ≡ Some c.args.entry.now) (sym c.self.view_is) c.requires in
    let n = length c.self.inside.plan.frames in
    let fits : holders c.args.entry.now.state < 2 ^ n = holders-fit n c.args.entry.now.state (all-at (IsFitEntry n) c.self.inside.directory.entries c.args.i c.args.entry.now c.self.invariant.entries found).state in
    subst (λ (v : SwitchView). c.holders.result < 2 ^ length v.plan.frames) c.self.view_is (subst (λ (x : ℕ). x < 2 ^ n) (sym c.holders.ensures) fits)
