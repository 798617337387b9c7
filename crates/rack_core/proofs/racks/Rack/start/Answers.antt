use Rattle.std.proofs.Common.{◌≡◌, ◌∙◌, ap, map, refl, length, rules, arith}
use Rattle.rack_core.specs.Rack.{RackView}
use Rattle.rack_core.specs.Start.{IsStart, first_memory}
use Rattle.rack_core.proofs.Functions.Starts.{first-shape}
use Rattle.rack_core.proofs.Events.Served.{start-served}
use Rattle.rack_core.proofs.Machine.Starts.{start-logs}
use Rattle.rack_core.proofs.Events.Starting.{starts}
use Rattle.rack_core.proofs.racks.Rack.start.Goals as goal

pub returns-clause-start : goal.returns-clause-start
returns-clause-start c = let same : c.as_slice.result.now ≡ c.args.plan.now.memories = search rules in record {
  of_plan = c.in_ok-plan.ensures;
  blades = c.in_ok-blades.ensures.first;
  switch = record {
    of_plan = c.in_ok-switch.ensures.plan;
    table = c.in_ok-switch.ensures.table;
    protect = c.in_ok-switch.ensures.protect;
    directory = c.in_ok-switch.ensures.directory;
    requests = c.in_ok-switch.ensures.requests;
    last = c.in_ok-switch.ensures.last;
  };
  memories = c.in_ok-memories.ensures ∙ ap (map first_memory) same;
  net = c.in_ok-net.ensures.empty;
  asked = refl;
}

pub returns-clause-kept : goal.returns-clause-kept
returns-clause-kept c =
    let rack : RackView = record { plan = c.in_ok-plan.plan; blades = c.in_ok-blades.blades.items; switch = c.in_ok-switch.switch; memories = c.in_ok-memories.memories.items; net = c.in_ok-net.net; asked = 0 } in
    let start : IsStart c.args.plan.now rack = returns-clause-start c in
    let blades : rack.net.blades ≡ length c.args.plan.now.frames = first_of (search rules, grind (arith)) in
    let memories : rack.net.memories ≡ length c.args.plan.now.memories = first_of (search rules, grind (arith)) in
    record { shape = first-shape c.args.plan.now rack c.requires start c.in_ok-blades.ensures.shape blades memories c.in_ok-net.ensures.net c.in_ok-switch.ensures.switch; safe = starts c.args.plan.now rack c.requires start; served = start-served c.args.plan.now rack start }

pub returns-clause-stands : goal.returns-clause-stands
returns-clause-stands c = λ images.
    let rack : RackView = record { plan = c.in_ok-plan.plan; blades = c.in_ok-blades.blades.items; switch = c.in_ok-switch.switch; memories = c.in_ok-memories.memories.items; net = c.in_ok-net.net; asked = 0 } in
    start-logs images c.args.plan.now rack c.requires (returns-clause-start c)
