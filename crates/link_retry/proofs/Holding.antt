-- What a link keeps stays sound under each change of it, and it makes a sound link.
use Rattle.std.proofs.Common.{◌≡◌, ℕ, ◌+◌, ◌-◌, ◌<◌, ◌≤◌, min, max, List, ◌++◌, length, subst, sym, ap, ◌∙◌, arith, length-append}
use Rattle.std.specs.Prelude.{All, Some, Result, Ok, Err, OnOk}
use Rattle.std.specs.List.{range_with_len}
use Rattle.std.proofs.lemmas.List.Elements.{All-append}
use Rattle.std.proofs.lemmas.List.FromFn.{length-range_with_len}
use Rattle.link_retry.specs.Wire.{frame_at, without_frame, with_frame}
use Rattle.link_retry.specs.Link.{LinkView, IsLink, expected}
use Rattle.link_retry.specs.Kept.{link_view, bases, selective_view, IsKeptLink, IsKeptSelective}
use Rattle.link_retry.proofs.Frames.{All-without, length-without, All-with_frame, length-with_frame, All-range, at_frame}

-- the expected number, as a link shows it
pub expected-view_of : (first number : ℕ) (pending : List (List ℕ)) (messages acks : List ℕ) → expected (link_view first number pending messages acks) ≡ number
expected-view_of first number pending messages acks = omega arith

pub is_link : {first number : ℕ} {pending : List (List ℕ)} {messages acks : List ℕ} → IsKeptLink first number pending messages acks → IsLink (link_view first number pending messages acks)
is_link {first} {number} {pending} {messages} {acks} h =
    let from : first ≤ number = h.from in
    record {
      pending = omega arith;
      kept = omega arith;
      next = h.next;
      message_numbers = h.message_numbers;
      ack_numbers = subst (λ (e : ℕ). All (λ n. n ≤ e) acks) (sym (expected-view_of first number pending messages acks)) h.ack_numbers;
      messages = h.messages_fit;
      acks = h.acks_fit;
    }

pub message_out : {first number : ℕ} {pending : List (List ℕ)} {messages acks : List ℕ} → IsKeptLink first number pending messages acks → (k : ℕ) (wire : List ℕ) → wire ≡ without_frame messages k → IsKeptLink first number pending wire acks
message_out {first} {number} {pending} {messages} {acks} h k wire e = subst (λ (w : List ℕ). IsKeptLink first number pending w acks) (sym e) record {
  from = h.from;
  next = h.next;
  message_numbers = All-without (λ x. x < number + length pending) messages k h.message_numbers;
  ack_numbers = h.ack_numbers;
  messages_fit = let fits : length messages ≤ 64 = h.messages_fit in omega (arith, length-without messages k);
  acks_fit = h.acks_fit;
}

pub ack_out : {first number : ℕ} {pending : List (List ℕ)} {messages acks : List ℕ} → IsKeptLink first number pending messages acks → (k : ℕ) (wire : List ℕ) → wire ≡ without_frame acks k → IsKeptLink first number pending messages wire
ack_out {first} {number} {pending} {messages} {acks} h k wire e = subst (λ (w : List ℕ). IsKeptLink first number pending messages w) (sym e) record {
  from = h.from;
  next = h.next;
  message_numbers = h.message_numbers;
  ack_numbers = All-without (λ x. x ≤ number) acks k h.ack_numbers;
  messages_fit = h.messages_fit;
  acks_fit = let fits : length acks ≤ 64 = h.acks_fit in omega (arith, length-without acks k);
}

pub ack_put : {first number : ℕ} {pending : List (List ℕ)} {messages acks : List ℕ} → IsKeptLink first number pending messages acks → (wire : List ℕ) → wire ≡ with_frame acks number → IsKeptLink first number pending messages wire
ack_put {first} {number} {pending} {messages} {acks} h wire e = subst (λ (w : List ℕ). IsKeptLink first number pending messages w) (sym e) record {
  from = h.from;
  next = h.next;
  message_numbers = h.message_numbers;
  ack_numbers = All-with_frame (λ x. x ≤ number) acks number h.ack_numbers (omega arith);
  messages_fit = h.messages_fit;
  acks_fit = length-with_frame acks number h.acks_fit;
}

-- an acknowledgement passes no expected number
acked_frame : {first number : ℕ} {pending : List (List ℕ)} {messages acks : List ℕ} → IsKeptLink first number pending messages acks → (k n : ℕ) → frame_at acks k ≡ Some n → n ≤ number
acked_frame {first} {number} {pending} {messages} {acks} h k n e = at_frame (λ x. x ≤ number) acks k n h.ack_numbers e

-- an acknowledgement was delivered
pub acked : {first number : ℕ} {pending : List (List ℕ)} {messages acks : List ℕ} → IsKeptLink first number pending messages acks → (k n later : ℕ) (wire : List ℕ) → frame_at acks k ≡ Some n → later ≡ max first n → wire ≡ without_frame acks k → IsKeptLink later number pending messages wire
acked {first} {number} {pending} {messages} {acks} h k n later wire named is e =
    let from : first ≤ number = h.from in
    let below : n ≤ number = acked_frame h k n named in
    let out : IsKeptLink first number pending messages wire = ack_out h k wire e in
    record {
      from = omega arith;
      next = h.next;
      message_numbers = h.message_numbers;
      ack_numbers = out.ack_numbers;
      messages_fit = h.messages_fit;
      acks_fit = out.acks_fit;
    }
