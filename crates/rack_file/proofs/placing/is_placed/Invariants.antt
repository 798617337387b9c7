use Rattle.std.proofs.Common.{◌≡◌, true}
use Rattle.control_plane.proofs.Callers.{placed_below}
use Rattle.rack_file.proofs.placing.is_placed.Given as goal

abbrev pub invariant-loop-n : goal.invariant-loop-n
invariant-loop-n l =
    placed_below l.homes.homes (record { domain = l.span-inside.domain; base = l.span-inside.base; pages = l.span-inside.pages }) l.n ≡ true
