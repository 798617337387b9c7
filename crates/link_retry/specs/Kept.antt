-- What a link keeps, and what it stands for: the pending messages, the sender's window and the receiver's. Of a kept
-- message that was taken only the number is left, since no frame brings it again.
use Rattle.std.specs.Prelude.{◌≡◌, ℕ, ◌+◌, ◌-◌, ◌<◌, ◌≤◌, ◌^◌, true, List, length, map, All}
use Rattle.link_retry.specs.declared.windows.Window.{Window}
use Rattle.link_retry.specs.Link.{LinkView}
use Rattle.link_retry.specs.SelectiveRepeat.{SelectiveView}
use Rattle.link_retry.specs.Window.{has}

-- the first pending message has the expected number
abbrev pub link_view : ℕ → ℕ → List (List ℕ) → List ℕ → List ℕ → LinkView
link_view first expected pending messages acks = record {
  pending = pending;
  next = expected + length pending;
  kept = expected + length pending - first;
  messages = messages;
  acks = acks;
}

-- the numbers that are acknowledged
abbrev pub bases : List Window → List ℕ
bases acks = map (λ (ack : Window). ack.base) acks

abbrev pub selective_view : Window → Window → List (List ℕ) → List ℕ → List Window → SelectiveView
selective_view sender receiver pending messages acks = record {
  link = link_view sender.base receiver.base pending messages (bases acks);
  windows = record { receiver = receiver; sender = sender; acks = acks };
}

-- the expected number is that of a kept message, or of the next one; frames have numbers that were sent,
-- acknowledgements none that is past the expected one, and no wire has more than 64 frames
pub record IsKeptLink (first expected : ℕ) (pending : List (List ℕ)) (messages acks : List ℕ) : Type 0 where
  pub from : first ≤ expected
  pub next : expected + length pending < 2 ^ 32
  pub message_numbers : All (λ number. number < expected + length pending) messages
  pub ack_numbers : All (λ number. number ≤ expected) acks
  pub messages_fit : length messages ≤ 64
  pub acks_fit : length acks ≤ 64

-- and the receiver has none beyond those that were sent
pub record IsKeptSelective (sender receiver : Window) (pending : List (List ℕ)) (messages : List ℕ) (acks : List Window) : Type 0 where
  pub link : IsKeptLink sender.base receiver.base pending messages (bases acks)
  pub come : (number : ℕ) → has receiver number ≡ true → number < receiver.base + length pending
