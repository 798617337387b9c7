use Rattle.std.proofs.Common.{◌≤◌, vec_len}
use Rattle.mind_base.proofs.directory_stores.read_to_limit.Given as goal

abbrev pub invariant-loop : goal.invariant-loop
invariant-loop g l = vec_len l.bytes ≤ l.limit
