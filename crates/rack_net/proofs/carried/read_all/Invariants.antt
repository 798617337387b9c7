use Rattle.std.proofs.Common.{◌≡◌, map, take}
use Rattle.rack_net.specs.Kept.{message_spelled}
use Rattle.rack_net.proofs.carried.read_all.Given as goal

abbrev pub invariant-loop-text : goal.invariant-loop-text
invariant-loop-text l = l.msgs.items ≡ map message_spelled (map (λ v. v.items) (take l.text-index l.texts))
