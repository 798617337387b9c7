use Rattle.std.proofs.Common.{◌≡◌, drop}
use Rattle.compute_blade.specs.Blade.{request_for}
use Rattle.compute_blade.proofs.requests.request_for.Given as goal

abbrev pub invariant-loop-asked : goal.invariant-loop-asked
invariant-loop-asked l = request_for l.page (drop l.asked-index l.requests) ≡ request_for l.page l.requests
