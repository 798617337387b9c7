use Rattle.rack_settle.proofs.BladeWeights.{blade_lightens, drain_lightens}
use Rattle.rack_settle.proofs.MemoryWeights.{memory_lightens}
use Rattle.rack_settle.proofs.laws_of_blades.blades_send_less.Goals as goal

pub returns : goal.returns
returns c = record { compute = blade_lightens; drain = drain_lightens; memory = memory_lightens }
