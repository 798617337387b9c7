use Rattle.std.proofs.Common.{◌≡◌, ◌-◌, ◌^◌}
use Rattle.range_migrate.proofs.migrates.copied.Given as goal

abbrev pub invariant-loop-copy : goal.invariant-loop-copy
invariant-loop-copy l = l.moving ≡ record l.step { next = l.moving.next }

abbrev pub decreases-loop-copy : goal.decreases-loop-copy
decreases-loop-copy l = 2 ^ l.step.range.log - l.moving.next
