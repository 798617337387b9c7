use Rattle.std.proofs.Common.{◌-◌, length}
use Rattle.bounded_split.proofs.Merging.{IsMerging}
use Rattle.bounded_split.proofs.merges.merge_all.Given as goal

abbrev pub invariant-loop-i : goal.invariant-loop-i
invariant-loop-i g l =
    IsMerging l.policy.threshold l.initial.directory l.directory l.initial.log.notes l.log.notes l.log.spare l.i l.merges

abbrev pub decreases-loop-i : goal.decreases-loop-i
decreases-loop-i g l = length l.directory.entries - l.i
