use Rattle.std.proofs.Common.{◌≡◌, map, take}
use Rattle.mind_base.specs.Plan.{image_place}
use Rattle.hart_effect.specs.Thread.{first_thread}
use Rattle.tso_machine.proofs.machines.start_harts.Given as goal

abbrev pub invariant-loop-thread : goal.invariant-loop-thread
invariant-loop-thread l =
    l.harts.items ≡ map (λ thread. first_thread (image_place l.images thread.image)) (take l.thread-index l.thread-items)
