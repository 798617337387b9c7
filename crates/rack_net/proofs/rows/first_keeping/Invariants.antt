use Rattle.std.proofs.Common.{◌≡◌, take, All}
use Rattle.link_retry.specs.SelectiveRepeat.{SelectiveView}
use Rattle.rack_net.proofs.rows.first_keeping.Given as goal

abbrev pub invariant-loop-place : goal.invariant-loop-place
invariant-loop-place l = All (λ (link : SelectiveView). link.link.kept ≡ 0) (take l.place l.links)
