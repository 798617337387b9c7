use Rattle.std.proofs.Common.{◌≡◌, map, take}
use Rattle.compute_blade.specs.Start.{hart_for}
use Rattle.compute_blade.proofs.blades.start_harts.Given as goal

abbrev pub invariant-loop-thread : goal.invariant-loop-thread
invariant-loop-thread l = l.harts.items ≡ map (hart_for l.plan l.number) (take l.thread-index l.thread-items)
