-- The rack has the nodes and the links that its plan says.
use Rattle.std.specs.Prelude.{◌≡◌, ℕ, length, slice_get, Some}
use Rattle.mind_base.specs.Fit.{IsFit}
use Rattle.mind_base.specs.declared.plans.RackPlan.{RackPlan}
use Rattle.compute_blade.specs.Blade.{BladeView, IsBlade}
use Rattle.rack_net.specs.Net.{IsNet}
use Rattle.switch_core.specs.Invariant.{IsSwitch}
use Rattle.rack_core.specs.Rack.{RackView}

-- a blade of this plan, and of this number in it
pub record IsBladeOf (made : RackPlan) (place : ℕ) (blade : BladeView) : Type 0 where
  pub plan : blade.plan ≡ made
  pub number : blade.number ≡ place
  pub shape : IsBlade blade

-- The plan is one of a rack. Its blades stand in their order, the switch is made from it, each of its memory
-- blades is there, and so are two links for each blade. Switch and links are sound, and the directory has the plan's
-- slots.
pub record IsShaped (rack : RackView) : Type 0 where
  pub fit : IsFit rack.plan
  pub blades : length rack.blades ≡ length rack.plan.frames
  pub each : (c : ℕ) (blade : BladeView) → slice_get rack.blades c ≡ Some blade → IsBladeOf rack.plan c blade
  pub switch : rack.switch.plan ≡ rack.plan
  pub memories : length rack.memories ≡ length rack.plan.memories
  pub links : (rack.net.blades ≡ length rack.plan.frames) × (rack.net.memories ≡ length rack.plan.memories)
  pub net : IsNet rack.net
  pub core : IsSwitch rack.switch
  pub slots : rack.switch.directory.slots ≡ rack.plan.slots
