use Rattle.std.proofs.Common.{◌≡◌, length, reverse, All}
use Rattle.wire_msg.specs.WellFormed.{IsWellFormed}
use Rattle.rack_core.specs.Handing.{IsHanding}
use Rattle.rack_core.specs.Shape.{IsShaped}
use Rattle.rack_core.proofs.Functions.Hands.{HandsOnward}
use Rattle.rack_core.proofs.racks.Rack.hand_all.Given as goal

-- what is left may be handed over, and is the rest of what was to be handed over at first
abbrev pub invariant-loop-msg : goal.invariant-loop-msg
invariant-loop-msg l =
    IsShaped l.self × (l.self.plan ≡ l.initial.self.plan) × IsHanding l.link (reverse l.left.items) l.self × All IsWellFormed l.left.items
    × HandsOnward l.images l.link (reverse l.left.items) (reverse l.initial.left.items) l.initial.self l.initial.log.notes l.self l.log.notes

abbrev pub decreases-loop-msg : goal.decreases-loop-msg
decreases-loop-msg l = length l.left.items
