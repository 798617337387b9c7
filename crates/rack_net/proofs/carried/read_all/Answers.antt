use Rattle.std.proofs.Common.{sym, subst}
use Rattle.rack_net.specs.Kept.{IsSpelled}
use Rattle.rack_net.proofs.Carrying.{text-spelled}
use Rattle.rack_net.proofs.carried.read_all.Goals as goal

pub read_one-requires : goal.read_one-requires
read_one-requires c =
    subst IsSpelled (sym c.as_slice.ensures.value) (text-spelled c.args.texts.now c.loop-text.text-index c.text-item.result c.loop-text-test.true c.text-item.is c.requires)
