-- Runs of moves, one after another; and equal worlds.
use Rattle.std.proofs.Common.{◌≡◌, refl, ap, subst, ℕ, Bool, true, false, List, [], ◌∷◌, ◌++◌}
use Rattle.std.specs.Prelude.{if◌then◌else◌}
use Rattle.mind_base.specs.declared.links.LinkKind.{LinkKind}
use Rattle.mind_base.specs.declared.links.LinkName.{LinkName}
use Rattle.wire_msg.specs.declared.msgs.Msg.{Msg}
use Rattle.coherence.specs.Facts.{IsCoherent}
use Rattle.coherence.specs.Moves.{Move, May, moved}
use Rattle.coherence.specs.Runs.{Run}
use Rattle.coherence.specs.World.{World}
use Rattle.coherence.proofs.Callers.{run_keeps}
use Rattle.rack_net.specs.Net.{same_link}
use Rattle.rack_core.specs.Seen.{sent_on}
use Rattle.rack_core.specs.SwitchMoves.{LeadsByMoves}

-- ---- runs

pub stay : (w : World) → LeadsByMoves w w
unfolding Run
stay w = ([], refl)

pub one_move : (w v : World) (move : Move) → May w move → v ≡ moved w move → LeadsByMoves w v
unfolding Run
one_move w v move may is = (move ∷ [], (may, is))

run_on : (a b c : World) (moves : List Move) → Run a moves b → LeadsByMoves b c → LeadsByMoves a c
unfolding Run
run_on a b c [] r more = subst (λ w. LeadsByMoves w c) r more
run_on a b c (move ∷ moves) r more = let rest = run_on (moved a move) b c moves r.1 more in (move ∷ rest.0, (r.0, rest.1))

pub leads_on : (a b c : World) → LeadsByMoves a b → LeadsByMoves b c → LeadsByMoves a c
leads_on a b c first more = run_on a b c first.0 first.1 more

pub leads_keeps : (a b : World) → IsCoherent a → LeadsByMoves a b → IsCoherent b
leads_keeps a b safe r = run_keeps a b r.0 safe r.1

-- ---- what is sent

pub sent_on-append : (kind : LinkKind) (number : ℕ) (a b : List (LinkName × Msg)) → sent_on kind number (a ++ b) ≡ sent_on kind number a ++ sent_on kind number b
sent_on-append kind number [] b = refl
sent_on-append kind number (m ∷ a) b =
    by (same_link (record { kind = kind; number = number }) m.0) (sent_on-append kind number a b) where
      by : (t : Bool) → sent_on kind number (a ++ b) ≡ sent_on kind number a ++ sent_on kind number b
          → (if t then m.1 ∷ sent_on kind number (a ++ b) else sent_on kind number (a ++ b))
          ≡ (if t then m.1 ∷ sent_on kind number a else sent_on kind number a) ++ sent_on kind number b
      by true e = ap (λ rest. m.1 ∷ rest) e
      by false e = e
