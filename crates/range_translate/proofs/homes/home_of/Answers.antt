use Rattle.std.proofs.Common.{subst, sym}
use Rattle.mind_base.specs.Fit.{AreApart}
use Rattle.range_translate.proofs.HomeSteps.{AreApart-one}
use Rattle.range_translate.proofs.homes.home_of.Goals as goal

pub place_in-requires : goal.place_in-requires
place_in-requires c = subst AreApart (sym c.as_slice.ensures)
    (AreApart-one c.args.memories.now c.loop-blade.blade c.index-memories-blade.result c.requires.apart c.loop-blade-test.true c.index-memories-blade.is)
