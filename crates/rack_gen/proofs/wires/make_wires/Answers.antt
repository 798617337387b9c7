use Rattle.std.proofs.Common.{length, ap, arith}
use Rattle.std.proofs.lemmas.List.{length-append}
use Rattle.mind_base.specs.declared.links.LinkKind.TheVariants.{Up, Down, To, From}
use Rattle.rack_gen.specs.Wire.{wires_between}
use Rattle.rack_gen.proofs.WireLists.{length_between}
use Rattle.rack_gen.proofs.wires.make_wires.Goals as goal

pub returns-clause-four : goal.returns-clause-four
returns-clause-four c =
    omega (
      arith,
      ap length c.new-wires.ensures.items,
      ap length c.in_ok-push_wires.ensures,
      ap length c.in_ok-push_wires-2.ensures,
      length-append c.new-wires.result.items (wires_between Up Down c.args.blades),
      length-append c.push_wires.new.wires.items (wires_between To From c.args.memories),
      length_between Up Down c.args.blades,
      length_between To From c.args.memories,
    )
