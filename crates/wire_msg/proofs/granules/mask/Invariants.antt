use Rattle.std.proofs.Common.{◌≡◌, ◌+◌, ◌-◌, ◌*◌, ◌^◌, ◌<◌, drop}
use Rattle.wire_msg.specs.Spelling.{mask_of}
use Rattle.wire_msg.proofs.granules.mask.Given as goal

abbrev pub invariant-loop-i : goal.invariant-loop-i
invariant-loop-i l = (l.mask ≡ mask_of (drop (64 * (64 - l.i)) l.bytes) (drop (64 - l.i) l.tags)) × (l.i < 64 → 2 * l.mask + 1 < 2 ^ 64)
