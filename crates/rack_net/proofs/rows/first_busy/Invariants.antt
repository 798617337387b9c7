use Rattle.std.proofs.Common.{take, All}
use Rattle.rack_net.specs.Kept.{IsQuietLink}
use Rattle.rack_net.proofs.rows.first_busy.Given as goal

abbrev pub invariant-loop-place : goal.invariant-loop-place
invariant-loop-place l = All IsQuietLink (take l.place l.links)
