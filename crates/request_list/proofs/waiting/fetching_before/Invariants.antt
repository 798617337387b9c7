use Rattle.std.proofs.Common.{◌≡◌, ◌≤◌, take}
use Rattle.request_list.specs.Requests.{fetching_in}
use Rattle.request_list.specs.Waiting.{requests_of}
use Rattle.request_list.proofs.waiting.fetching_before.Given as goal

abbrev pub invariant-loop-i : goal.invariant-loop-i
invariant-loop-i l = (l.count ≤ l.i) × (l.count ≡ fetching_in (take l.i (requests_of l.waiting.entries)))
