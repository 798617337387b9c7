-- A link: what each call on it does with the messages, the numbers and the two wires. All of it holds of every
-- protocol that keeps the order of messages; what go-back-N adds is said in GoBackN alone.
use Rattle.std.specs.Prelude.{◌≡◌, ℕ, ◌+◌, ◌-◌, ◌<◌, ◌≤◌, ◌^◌, ◌↔◌, min, List, [], ◌∷◌, ◌++◌, length, slice_get, All, Option, Some, None}
use Rattle.std.specs.List.Sorted.{IsStrictlyIncreasing}
use Rattle.mind_base.specs.declared.links.Side.{Side}
use Rattle.mind_base.specs.declared.links.Side.TheVariants.{Messages, Acks}
use Rattle.link_retry.specs.Wire.{frame_at, without_frame, with_frame, with_copy}

-- the messages sent and not yet taken, in order; the number of the next message; how many messages
-- the sender keeps; the message wire, of message numbers; the acknowledgement wire, of next expected numbers
pub record LinkView : Type 0 where
  pub pending : List (List ℕ)
  pub next : ℕ
  pub kept : ℕ
  pub messages : List ℕ
  pub acks : List ℕ

-- the number of the first kept message: the kept ones are the last that were sent
abbrev pub first_kept : LinkView → ℕ
first_kept link = link.next - link.kept

-- the next expected number, which is that of the first pending message
abbrev pub expected : LinkView → ℕ
expected link = link.next - length link.pending

-- Every pending message is kept, and every kept one was sent. A message frame has the number of a message
-- that was sent, and an acknowledgement passes no expected one. Neither wire has more than 64 frames.
pub record IsLink (link : LinkView) : Type 0 where
  pub pending : length link.pending ≤ link.kept
  pub kept : link.kept ≤ link.next
  pub next : link.next < 2 ^ 32
  pub message_numbers : All (λ number. number < link.next) link.messages
  pub ack_numbers : All (λ number. number ≤ expected link) link.acks
  pub messages : length link.messages ≤ 64
  pub acks : length link.acks ≤ 64

-- a link that nothing was sent on
abbrev pub new_link : LinkView
new_link = record { pending = []; next = 0; kept = 0; messages = []; acks = [] }

-- the link after `send`: the message is pending and kept under the next number, with a frame on the wire
abbrev pub after_send : LinkView → List ℕ → LinkView
after_send link message = record {
  pending = link.pending ++ message ∷ [];
  next = link.next + 1;
  kept = link.kept + 1;
  messages = with_frame link.messages link.next;
  acks = link.acks;
}

-- the frames of one side
abbrev pub wire_of : LinkView → Side → List ℕ
wire_of link Messages = link.messages
wire_of link Acks = link.acks

-- the link with another wire on that side, and all else as it was
abbrev pub with_wire : LinkView → Side → List ℕ → LinkView
with_wire link Messages wire = record link { messages = wire }
with_wire link Acks wire = record link { acks = wire }

abbrev pub after_lose : LinkView → Side → ℕ → LinkView
after_lose link side k = with_wire link side (without_frame (wire_of link side) k)

abbrev pub after_repeat : LinkView → Side → ℕ → LinkView
after_repeat link side k = with_wire link side (with_copy (wire_of link side) k)

-- What `deliver` of the message frame that k names does, which has this number.
pub record FrameReceives (old : LinkView) (k number : ℕ) (taken : List (List ℕ)) (new : LinkView) : Type 0 where
  -- what is taken is a prefix of what was pending, and leaves it
  pub prefix : old.pending ≡ taken ++ new.pending
  -- a message is taken exactly where the frame has the number of the first pending one
  pub first : (0 < length taken) ↔ ((0 < length old.pending) × (number ≡ expected old))
  -- the expected number passes that of a frame whose number is at most that of the first kept message
  pub passes : number ≤ first_kept old → number < expected new
  -- the frame leaves the wire, and the expected number is acknowledged
  pub messages : new.messages ≡ without_frame old.messages k
  pub acks : new.acks ≡ with_frame old.acks (expected new)
  pub next : new.next ≡ old.next
  pub kept : new.kept ≡ old.kept

-- how many messages are kept once this number was acknowledged: those with smaller numbers no longer
abbrev pub left_kept : LinkView → ℕ → ℕ
left_kept link number = min link.kept (link.next - number)

-- What `deliver` of the acknowledgement that k names does, which has this number.
pub record Acknowledges (old : LinkView) (k number : ℕ) (taken : List (List ℕ)) (new : LinkView) : Type 0 where
  pub none : taken ≡ []
  -- fewer are kept exactly where it passes the first kept number
  pub falls : (new.kept < old.kept) ↔ (first_kept old < number)
  pub kept : new.kept ≡ left_kept old number
  -- it leaves the wire, and all else is as it was
  pub acks : new.acks ≡ without_frame old.acks k
  pub pending : new.pending ≡ old.pending
  pub next : new.next ≡ old.next
  pub messages : new.messages ≡ old.messages

-- what `deliver` does, by the frame that is named: nothing where there is none
abbrev pub DeliversMessage : LinkView → ℕ → Option ℕ → List (List ℕ) → LinkView → Type 0
DeliversMessage old k None taken new = (taken ≡ []) × (new ≡ old)
DeliversMessage old k (Some number) taken new = FrameReceives old k number taken new

abbrev pub DeliversAck : LinkView → ℕ → Option ℕ → List (List ℕ) → LinkView → Type 0
DeliversAck old k None taken new = (taken ≡ []) × (new ≡ old)
DeliversAck old k (Some number) taken new = Acknowledges old k number taken new

abbrev pub FrameDelivers : LinkView → Side → ℕ → List (List ℕ) → LinkView → Type 0
FrameDelivers old Messages k taken new = DeliversMessage old k (frame_at old.messages k) taken new
FrameDelivers old Acks k taken new = DeliversAck old k (frame_at old.acks k) taken new

-- frames that `resend` may put at the end of the message wire
pub record AreResent (link : LinkView) (frames : List ℕ) : Type 0 where
  -- each has the number of a kept message, and the numbers rise
  pub kept : All (λ number. (first_kept link ≤ number) × (number < link.next)) frames
  pub rising : IsStrictlyIncreasing frames
  -- the wire has room for them, and the first kept message's comes first where there is room for one
  pub room : length link.messages + length frames ≤ 64
  pub first : 0 < link.kept → length link.messages < 64 → slice_get frames 0 ≡ Some (first_kept link)

-- what `resend` does: it puts such frames at the end of the message wire, and changes nothing else
abbrev pub Resends : LinkView → LinkView → Type 0
Resends old new = (frames : List ℕ) × AreResent old frames × (new ≡ with_wire old Messages (old.messages ++ frames))
