use Rattle.std.proofs.Common.{◌-◌, ◌+◌, ◌*◌, ◌^◌, ◌≤◌, length}
use Rattle.region_directory.proofs.LookUpLemmas.{FailBetween}
use Rattle.region_directory.proofs.directories.Directory.find_counted.Given as goal

abbrev pub invariant-loop-low : goal.invariant-loop-low
invariant-loop-low l =
    (l.low ≤ l.high) × (l.high ≤ length l.self.entries)
    × FailBetween l.self.entries l.page 0 l.low × FailBetween l.self.entries l.page l.high (length l.self.entries)
    × (l.initial.steps ≤ l.steps)
    × (2 ^ (l.steps - l.initial.steps) * (l.high - l.low) ≤ length l.self.entries)
    × (2 ^ (l.steps - l.initial.steps) ≤ 2 * length l.self.entries + 1)

abbrev pub decreases-loop-low : goal.decreases-loop-low
decreases-loop-low l = l.high - l.low
