use Rattle.std.proofs.Common.{drop}
use Rattle.compute_blade.specs.Pages.{withdrawn, each_in}
use Rattle.compute_blade.specs.Blade.{StaysBlade}
use Rattle.compute_blade.proofs.Chains.{Continues}
use Rattle.compute_blade.proofs.blades.ComputeBlade.withdraw_each.Given as goal

abbrev pub invariant-loop-page : goal.invariant-loop-page
invariant-loop-page l =
    Continues (each_in (withdrawn l.what) (drop l.page-index l.pages) l.self) (each_in (withdrawn l.what) l.pages l.initial.self) l.out.items l.initial.out.items l.log.notes l.initial.log.notes
    × StaysBlade l.initial.self l.self
