-- Whole runs of a link: calls in any order, each with what it gave.
use Rattle.std.specs.Prelude.{◌≡◌, ℕ, List, [], ◌∷◌, ◌++◌}
use Rattle.mind_base.specs.declared.links.Side.{Side}
use Rattle.link_retry.specs.Link.{LinkView, after_send, FrameDelivers, after_lose, after_repeat, Resends}

-- a call that was answered Ok; a `deliver` with the messages that it gave
pub data LinkCall : Type 0 where
  Send : (message : List ℕ) → LinkCall
  Deliver : (side : Side) (k : ℕ) (taken : List (List ℕ)) → LinkCall
  Lose : (side : Side) (k : ℕ) → LinkCall
  Repeat : (side : Side) (k : ℕ) → LinkCall
  Resend : LinkCall

-- the link may be this one after the call
abbrev pub LinkStep : LinkView → LinkCall → LinkView → Type 0
LinkStep old (Send message) new = new ≡ after_send old message
LinkStep old (Deliver side k taken) new = FrameDelivers old side k taken new
LinkStep old (Lose side k) new = new ≡ after_lose old side k
LinkStep old (Repeat side k) new = new ≡ after_repeat old side k
LinkStep old Resend new = Resends old new

-- the link may be this one after the calls, one after another
abbrev pub LinkRun : LinkView → List LinkCall → LinkView → Type 0
LinkRun old [] new = new ≡ old
LinkRun old (call ∷ calls) new = (mid : LinkView) × LinkStep old call mid × LinkRun mid calls new

-- the messages that the calls sent, in order
abbrev pub sent_by : List LinkCall → List (List ℕ)
sent_by [] = []
sent_by (Send message ∷ calls) = message ∷ sent_by calls
sent_by (call ∷ calls) = sent_by calls

-- the messages that the calls gave, in order
abbrev pub taken_by : List LinkCall → List (List ℕ)
taken_by [] = []
taken_by (Deliver side k taken ∷ calls) = taken ++ taken_by calls
taken_by (call ∷ calls) = taken_by calls
