use Rattle.rack_settle.proofs.SwitchWeights.{switch_lightens}
use Rattle.rack_settle.proofs.laws_of_switch.the_switch_sends_less.Goals as goal

pub returns : goal.returns
returns c = switch_lightens
