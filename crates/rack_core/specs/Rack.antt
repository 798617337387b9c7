-- What is seen of the rack.
use Rattle.std.specs.Prelude.{ℕ, List, slice_set}
use Rattle.mind_base.specs.declared.plans.RackPlan.{RackPlan}
use Rattle.page_image.specs.PageImage.{PageImageView}
use Rattle.compute_blade.specs.Blade.{BladeView}
use Rattle.switch_core.specs.Switch.{SwitchView}
use Rattle.rack_net.specs.Net.{NetView}

-- the plan, which never changes; the compute blades, the switch, the images of each memory blade, and the links;
-- and how many commands were asked
pub record RackView : Type 0 where
  pub plan : RackPlan
  pub blades : List BladeView
  pub switch : SwitchView
  pub memories : List (List PageImageView)
  pub net : NetView
  pub asked : ℕ

abbrev pub with_blade_at : ℕ → BladeView → RackView → RackView
with_blade_at number blade rack = record rack { blades = slice_set rack.blades number blade }

abbrev pub with_switch : SwitchView → RackView → RackView
with_switch switch rack = record rack { switch = switch }

abbrev pub with_memory : ℕ → List PageImageView → RackView → RackView
with_memory number images rack = record rack { memories = slice_set rack.memories number images }

abbrev pub with_net : NetView → RackView → RackView
with_net net rack = record rack { net = net }
