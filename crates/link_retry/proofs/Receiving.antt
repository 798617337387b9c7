-- Selective repeat does what is asked of a link.
use Rattle.std.proofs.Common.{◌≡◌, ℕ, ◌+◌, ◌-◌, ◌<◌, ◌≤◌, zero, suc, List, [], ◌∷◌, ◌++◌, length, take, Bool, true, false, refl, subst, sym, ap, ◌∙◌, arith, inl, inr, length-take}
use Rattle.std.specs.Prelude.{All, Option, Some, filter, not, slice_get, if◌then◌else◌}
use Rattle.std.specs.List.{range_with_len}
use Rattle.std.specs.List.Sorted.{IsStrictlyIncreasing}
use Rattle.std.proofs.lemmas.Bool.{cases_eq, false≢true}
use Rattle.std.proofs.lemmas.List.{get_or-take}
use Rattle.std.proofs.lemmas.List.Elements.{All-take, All-filter}
use Rattle.std.proofs.lemmas.List.Kept.{IsStrictlyIncreasing-filter}
use Rattle.link_retry.specs.declared.windows.Window.{Window}
use Rattle.link_retry.specs.Wire.{frame_at, without_frame, with_frame}
use Rattle.link_retry.specs.Window.{has, gaps, Joins}
use Rattle.link_retry.specs.Link.{LinkView, IsLink, expected, first_kept, left_kept, FrameReceives, Acknowledges, DeliversMessage, DeliversAck, AreResent}
use Rattle.link_retry.specs.SelectiveRepeat.{SelectiveView, HandsOver, ChangesNoElse, unmarked}
use Rattle.link_retry.proofs.Frames.{All-range, IsStrictlyIncreasing-range, at_frame, map-without, map-with}
use Rattle.link_retry.specs.Kept.{link_view, bases, selective_view, IsKeptSelective}
use Rattle.link_retry.proofs.Holding.{is_link, expected-view_of}
use Rattle.link_retry.proofs.Keeping.{named-base}
use Rattle.link_retry.proofs.Moving.{has-base}

-- a message frame was delivered
pub receives : (old new : LinkView) (before after : Window) (k number : ℕ) (taken : List (List ℕ)) → IsLink old → before.base ≡ expected old → after.base ≡ expected new → number < old.next
    → old.pending ≡ taken ++ new.pending → HandsOver before number taken after → new.next ≡ old.next → new.kept ≡ old.kept → new.messages ≡ without_frame old.messages k → new.acks ≡ with_frame old.acks (expected new)
    → FrameReceives old k number taken new
receives old new before after k number taken link here there sent prefix hands next kept messages acks = elim (cases_eq number before.base) [
  | inl same ↦
      let passed = (hands.awaited same).0 in
      let later : before.base < after.base = passed.later in
      let count : length taken ≡ after.base - before.base = (hands.awaited same).1 in
      let keeps : length old.pending ≤ old.kept = link.pending in
      let upto : old.kept ≤ old.next = link.kept in
      let is : number ≡ old.next - length old.pending = same ∙ here in
      let some : 0 < length old.pending = omega arith in
      record {
        prefix = prefix;
        first = ((λ h. (some, is)), (λ h. omega arith));
        passes = λ below. subst (λ (n : ℕ). number < n) there (omega arith);
        messages = messages;
        acks = acks;
        next = next;
        kept = kept;
      }
  | inr other ↦
      let none : taken ≡ [] = (hands.other other).1 in
      let stays : after.base ≡ before.base = (hands.other other).0.base in
      let empty : length taken ≡ 0 = ap length none in
      let keeps : length old.pending ≤ old.kept = link.pending in
      let upto : old.kept ≤ old.next = link.kept in
      record {
        prefix = prefix;
        first = ((λ h. absurd (omega arith)), (λ h. absurd (other (h.1 ∙ sym here))));
        passes = λ below. subst (λ (n : ℕ). number < n) there (omega (arith, other, here, stays));
        messages = messages;
        acks = acks;
        next = next;
        kept = kept;
      }
]

-- an acknowledgement was delivered
pub acknowledges : (old new : LinkView) (k number : ℕ) → IsLink old → number ≤ expected old → new.kept ≡ left_kept old number → new.acks ≡ without_frame old.acks k
    → new.pending ≡ old.pending → new.next ≡ old.next → new.messages ≡ old.messages → Acknowledges old k number [] new
acknowledges old new k number link below kept acks pending next messages =
    let upto : old.kept ≤ old.next = link.kept in
    let keeps : length old.pending ≤ old.kept = link.pending in
    record {
      none = refl;
      falls = ((λ less. omega arith), (λ passed. omega arith));
      kept = kept;
      acks = acks;
      pending = pending;
      next = next;
      messages = messages;
    }

-- the front of rising numbers rises
IsStrictlyIncreasing-take : (n : ℕ) (numbers : List ℕ) → IsStrictlyIncreasing numbers → IsStrictlyIncreasing (take n numbers)
IsStrictlyIncreasing-take n numbers h = λ k lt.
    let small : k + 1 < n = omega (arith, length-take n numbers, lt) in
    let inside : k + 1 < length numbers = omega (arith, length-take n numbers, lt) in
    omega (arith, h k inside, get_or-take n numbers k 0 (omega arith), get_or-take n numbers (k + 1) 0 small)

-- the first of those that are not in a window is the number that it stands at
first-gap : (window : Window) (count room : ℕ) → 0 < count → 0 < room → slice_get (take room (gaps window count)) 0 ≡ Some window.base
first-gap window zero room some place = absurd (omega arith)
first-gap window (suc count) zero some place = absurd (omega arith)
first-gap window (suc count) (suc room) some place =
    by (has window window.base) (has-base window) where
      rest : List ℕ
      rest = filter (λ number. not (has window number)) (range_with_len (window.base + 1) count)

      by : (b : Bool) → b ≡ false → slice_get (take (suc room) (if not b then window.base ∷ rest else rest)) 0 ≡ Some window.base
      by false is = refl
      by true is = absurd (false≢true (sym is))

-- the frames of the kept messages that are not marked are such as may be put
pub unmarked_are_resent : (link : LinkView) (sender : Window) → IsLink link → sender.base ≡ first_kept link → AreResent link (unmarked link sender)
unmarked_are_resent link sender h here =
    let room : ℕ = 64 - length link.messages in
    let upto : link.kept ≤ link.next = h.kept in
    let fits : length link.messages ≤ 64 = h.messages in
    record {
      kept =
          All-take (λ n. (first_kept link ≤ n) × (n < link.next)) room (gaps sender link.kept)
          (All-filter (λ number. not (has sender number)) (λ n. (first_kept link ≤ n) × (n < link.next)) (range_with_len sender.base link.kept)
          (All-range (λ n. (first_kept link ≤ n) × (n < link.next)) sender.base link.kept (λ x a b. (omega (arith, here, a), omega (arith, here, b)))));
      rising = IsStrictlyIncreasing-take room (gaps sender link.kept) (IsStrictlyIncreasing-filter (λ number. not (has sender number)) (range_with_len sender.base link.kept) (IsStrictlyIncreasing-range sender.base link.kept));
      room = omega (arith, fits, length-take room (gaps sender link.kept));
      first = λ some place. first-gap sender link.kept room some (omega arith) ∙ ap Some here;
    }

-- an acknowledgement, as the code delivers it
pub ack-delivered : {sender receiver : Window} {pending : List (List ℕ)} {messages : List ℕ} {acks : List Window} → IsKeptSelective sender receiver pending messages acks → (old : SelectiveView) (k : ℕ) (ack new : Window) (wire : List Window)
    → selective_view sender receiver pending messages acks ≡ old → frame_at acks k ≡ Some ack → Joins sender ack new → wire ≡ without_frame acks k
    → DeliversAck old.link k (frame_at old.link.acks k) [] (link_view new.base receiver.base pending messages (bases wire))
ack-delivered {sender} {receiver} {pending} {messages} {acks} h old k ack new wire viewed named join out =
    subst (λ (v : SelectiveView). DeliversAck v.link k (frame_at v.link.acks k) [] later) viewed
    (subst (λ (f : Option ℕ). DeliversAck before k f [] later) (sym (named-base acks k ack named))
    (acknowledges before later k ack.base (is_link h.link) below kept (ap bases out ∙ map-without (λ (a : Window). a.base) acks k) refl refl refl)) where
      before : LinkView
      before = link_view sender.base receiver.base pending messages (bases acks)

      later : LinkView
      later = link_view new.base receiver.base pending messages (bases wire)

      from : sender.base ≤ receiver.base
      from = h.link.from

      passed : ack.base ≤ receiver.base
      passed = at_frame (λ x. x ≤ receiver.base) (bases acks) k ack.base h.link.ack_numbers (named-base acks k ack named)

      below : ack.base ≤ expected before
      below = omega (arith, passed)

      kept : receiver.base + length pending - new.base ≡ left_kept before ack.base
      kept = omega (arith, join.base, passed, from)

-- a message frame, as the code delivers it: it leaves its wire, the receiver is handed what it gives, and what it has then is
-- acknowledged
pub message-delivered : {sender receiver : Window} {pending : List (List ℕ)} {messages : List ℕ} {acks : List Window} → IsKeptSelective sender receiver pending messages acks → (old mid : SelectiveView) (k number : ℕ) (taken : List (List ℕ))
    → (sender' receiver' : Window) (pending' : List (List ℕ)) (messages' : List ℕ) (acks' wire : List Window)
    → selective_view sender receiver pending messages acks ≡ old → selective_view sender' receiver' pending' messages' acks' ≡ mid → IsKeptSelective sender' receiver' pending' messages' acks'
    → frame_at messages k ≡ Some number → pending ≡ taken ++ mid.link.pending → HandsOver receiver number taken mid.windows.receiver
    → ChangesNoElse (selective_view sender receiver pending (without_frame messages k) acks) mid → wire ≡ with_frame acks' receiver'
    → DeliversMessage old.link k (frame_at old.link.messages k) taken (link_view sender'.base receiver'.base pending' messages' (bases wire))
message-delivered {sender} {receiver} {pending} {messages} {acks} h old mid k number taken sender' receiver' pending' messages' acks' wire viewed viewed' h' named prefix hands others put =
    subst (λ (v : SelectiveView). DeliversMessage v.link k (frame_at v.link.messages k) taken later) viewed
    (subst (λ (f : Option ℕ). DeliversMessage before k f taken later) (sym named)
    (receives before later receiver receiver' k number taken (is_link h.link) here there sent
    (subst (λ (v : SelectiveView). pending ≡ taken ++ v.link.pending) (sym viewed') prefix)
    (subst (λ (v : SelectiveView). HandsOver receiver number taken v.windows.receiver) (sym viewed') hands)
    rest.next rest.kept rest.messages acked)) where
      before : LinkView
      before = link_view sender.base receiver.base pending messages (bases acks)

      later : LinkView
      later = link_view sender'.base receiver'.base pending' messages' (bases wire)

      rest : ChangesNoElse (selective_view sender receiver pending (without_frame messages k) acks) (selective_view sender' receiver' pending' messages' acks')
      rest = subst (λ (v : SelectiveView). ChangesNoElse (selective_view sender receiver pending (without_frame messages k) acks) v) (sym viewed') others

      here : receiver.base ≡ expected before
      here = sym (expected-view_of sender.base receiver.base pending messages (bases acks))

      there : receiver'.base ≡ expected later
      there = sym (expected-view_of sender'.base receiver'.base pending' messages' (bases wire))

      sent : number < receiver.base + length pending
      sent = at_frame (λ x. x < receiver.base + length pending) messages k number h.link.message_numbers named

      acked : bases wire ≡ with_frame (bases acks) (expected later)
      acked =
          ap bases (put ∙ ap (λ (a : List Window). with_frame a receiver') rest.acks) ∙ map-with (λ (a : Window). a.base) acks receiver'
          ∙ ap (with_frame (bases acks)) there
