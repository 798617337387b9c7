use Rattle.std.proofs.Common.{◌≡◌, ◌++◌, length, map, take, drop}
use Rattle.region_directory.specs.Directory.{IsDirectory}
use Rattle.region_directory.specs.Entry.{with_busy}
use Rattle.invalidate_multicast.specs.Transition.{after_answer}
use Rattle.invalidate_multicast.proofs.transitions.answer.Given as goal

abbrev pub invariant-loop-i : goal.invariant-loop-i
invariant-loop-i l = record {
  entries : l.directory.entries ≡ map (λ entry. with_busy (after_answer l.number l.blade entry.busy) entry) (take l.i l.initial.directory.entries) ++ drop l.i l.initial.directory.entries;
  slots : l.directory.slots ≡ l.initial.directory.slots;
  most : l.directory.most ≡ l.initial.directory.most;
  count : length l.directory.entries ≡ length l.initial.directory.entries;
  valid : IsDirectory l.directory;
}
