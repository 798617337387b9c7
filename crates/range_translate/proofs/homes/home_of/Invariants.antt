use Rattle.std.proofs.Common.{◌≡◌, drop}
use Rattle.mind_base.specs.Home.{home_of, home_from}
use Rattle.range_translate.proofs.homes.home_of.Given as goal

abbrev pub invariant-loop-blade : goal.invariant-loop-blade
invariant-loop-blade l = home_from l.blade (drop l.blade l.memories) l.page ≡ home_of l.memories l.page
