use Rattle.std.proofs.Common.{◌≡◌, ◌*◌, ◌++◌, ℕ, List, drop}
use Rattle.wire_msg.specs.Spelling.{granules_bytes}
use Rattle.wire_msg.proofs.granules.put_granules.Given as goal

abbrev pub invariant-loop-g : goal.invariant-loop-g
invariant-loop-g l = record {
  to_do : l.out.items ++ granules_bytes (drop (64 * l.g) l.bytes) (drop l.g l.tags) ≡ l.fn.out.items ++ granules_bytes l.bytes l.tags;
  done : (more : List ℕ) × (l.out.items ≡ l.fn.out.items ++ more);
}
