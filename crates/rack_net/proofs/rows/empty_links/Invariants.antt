use Rattle.std.proofs.Common.{◌≡◌, replicate}
use Rattle.link_retry.specs.SelectiveRepeat.{new_selective}
use Rattle.rack_net.proofs.rows.empty_links.Given as goal

abbrev pub invariant-loop : goal.invariant-loop
invariant-loop l = l.links.items ≡ replicate l.counter new_selective
