use Rattle.std.proofs.Common.{◌≡◌, ◌-◌, ◌*◌, length}
use Rattle.wire_msg.specs.Reading.{granules_read}
use Rattle.wire_msg.proofs.GranuleSteps.{joined}
use Rattle.wire_msg.proofs.granules.granules.Given as goal

abbrev pub invariant-loop : goal.invariant-loop
invariant-loop l = record {
  whole : granules_read 64 l.fn.mask l.fn.bytes ≡ joined l.page.items l.tags.items (granules_read (64 - l.counter) l.left l.rest);
  sized : length l.page.items ≡ 64 * l.counter;
  counted : length l.tags.items ≡ l.counter;
}
