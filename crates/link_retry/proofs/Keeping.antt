-- What a link keeps, with its windows, stays sound under each change of it.
use Rattle.std.proofs.Common.{◌≡◌, ℕ, ◌+◌, ◌-◌, ◌<◌, ◌≤◌, max, true, false, List, [], ◌∷◌, ◌++◌, length, map, take, drop, refl, subst, sym, ap, ◌∙◌, arith, inl, inr, length-append, length-drop}
use Rattle.std.specs.Prelude.{All, Option, Some, None, option_map, filter, not}
use Rattle.std.specs.List.{range_with_len}
use Rattle.std.specs.Prelude.{Result, Ok, Err, OnOk, OnErr}
use Rattle.std.proofs.lemmas.Bool.{false≢true}
use Rattle.std.proofs.lemmas.List.{map-append, take-append-drop}
use Rattle.std.specs.Global.{Vec}
use Rattle.std.proofs.lemmas.List.Elements.{All-append, All-filter, All-nil}
use Rattle.link_retry.specs.declared.windows.Window.{Window}
use Rattle.link_retry.specs.Wire.{frame_at, without_frame, with_frame, with_copy}
use Rattle.link_retry.specs.Window.{has, gaps, PutsGaps, Keeps, Passes, Joins}
use Rattle.mind_base.specs.declared.links.Side.{Side}
use Rattle.mind_base.specs.declared.links.Side.TheVariants.{Messages, Acks}
use Rattle.link_retry.specs.Link.{LinkView, after_lose, after_repeat}
use Rattle.link_retry.specs.Kept.{link_view, bases, IsKeptLink, IsKeptSelective}
use Rattle.link_retry.proofs.Frames.{All-with_frame, length-with_frame, All-copy, length-copy, All-range, at_frame, map-without, map-with, map-frame, map-copy}
use Rattle.link_retry.proofs.Holding.{message_out, ack_out, ack_put, acked}
use Rattle.link_retry.proofs.Moving.{had, kept-or-had, passes-sent, has-none}

abbrev base_of : Window → ℕ
base_of window = window.base

-- a message was sent
pub sent : {sender receiver : Window} {pending : List (List ℕ)} {messages : List ℕ} {acks : List Window} → IsKeptSelective sender receiver pending messages acks → (message : List ℕ) (later : List (List ℕ)) (wire : List ℕ)
    → receiver.base + length pending < 4294967295 → later ≡ pending ++ message ∷ [] → wire ≡ with_frame messages (receiver.base + length pending) → IsKeptSelective sender receiver later wire acks
sent {sender} {receiver} {pending} {messages} {acks} h message later wire few put e =
    let longer : length later ≡ length pending + 1 = ap length put ∙ length-append pending (message ∷ []) in
    subst (λ (w : List ℕ). IsKeptSelective sender receiver later w acks) (sym e) record {
      link = record {
        from = h.link.from;
        next = omega (arith, longer);
        message_numbers = All-with_frame (λ x. x < receiver.base + length later) messages (receiver.base + length pending) (λ k d lt. omega (arith, longer, h.link.message_numbers k d lt)) (omega (arith, longer));
        ack_numbers = h.link.ack_numbers;
        messages_fit = length-with_frame messages (receiver.base + length pending) h.link.messages_fit;
        acks_fit = h.link.acks_fit;
      };
      come = λ n is. omega (arith, longer, h.come n is);
    }

-- a message frame was taken out, or copied
pub without_message : {sender receiver : Window} {pending : List (List ℕ)} {messages : List ℕ} {acks : List Window} → IsKeptSelective sender receiver pending messages acks → (k : ℕ) (wire : List ℕ) → wire ≡ without_frame messages k → IsKeptSelective sender receiver pending wire acks
without_message h k wire e = record { link = message_out h.link k wire e; come = h.come }

pub message_copied : {sender receiver : Window} {pending : List (List ℕ)} {messages : List ℕ} {acks : List Window} → IsKeptSelective sender receiver pending messages acks → (k : ℕ) (wire : List ℕ) → wire ≡ with_copy messages k → IsKeptSelective sender receiver pending wire acks
message_copied {sender} {receiver} {pending} {messages} {acks} h k wire e =
    subst (λ (w : List ℕ). IsKeptSelective sender receiver pending w acks) (sym e) record {
      link = record {
        from = h.link.from;
        next = h.link.next;
        message_numbers = All-copy (λ x. x < receiver.base + length pending) messages k h.link.message_numbers;
        ack_numbers = h.link.ack_numbers;
        messages_fit = length-copy messages k h.link.messages_fit;
        acks_fit = h.link.acks_fit;
      };
      come = h.come;
    }

-- an acknowledgement was taken out, copied, or put
pub without_ack : {sender receiver : Window} {pending : List (List ℕ)} {messages : List ℕ} {acks : List Window} → IsKeptSelective sender receiver pending messages acks → (k : ℕ) (wire : List Window) → wire ≡ without_frame acks k → IsKeptSelective sender receiver pending messages wire
without_ack {sender} {receiver} {pending} {messages} {acks} h k wire e = record { link = ack_out h.link k (bases wire) (ap bases e ∙ map-without base_of acks k); come = h.come }

pub ack_copied : {sender receiver : Window} {pending : List (List ℕ)} {messages : List ℕ} {acks : List Window} → IsKeptSelective sender receiver pending messages acks → (k : ℕ) (wire : List Window) → wire ≡ with_copy acks k → IsKeptSelective sender receiver pending messages wire
ack_copied {sender} {receiver} {pending} {messages} {acks} h k wire e = record {
  link =
      subst (λ (w : List ℕ). IsKeptLink sender.base receiver.base pending messages w) (sym (ap bases e ∙ map-copy base_of acks k)) record {
        from = h.link.from;
        next = h.link.next;
        message_numbers = h.link.message_numbers;
        ack_numbers = All-copy (λ x. x ≤ receiver.base) (bases acks) k h.link.ack_numbers;
        messages_fit = h.link.messages_fit;
        acks_fit = length-copy (bases acks) k h.link.acks_fit;
      };
  come = h.come;
}

pub with_ack : {sender receiver : Window} {pending : List (List ℕ)} {messages : List ℕ} {acks : List Window} → IsKeptSelective sender receiver pending messages acks → (wire : List Window) → wire ≡ with_frame acks receiver → IsKeptSelective sender receiver pending messages wire
with_ack {sender} {receiver} {pending} {messages} {acks} h wire e = record { link = ack_put h.link (bases wire) (ap bases e ∙ map-with base_of acks receiver); come = h.come }

-- a frame that came early was kept
pub early : {sender receiver : Window} {pending : List (List ℕ)} {messages : List ℕ} {acks : List Window} → IsKeptSelective sender receiver pending messages acks → (number : ℕ) (new : Window) → number < receiver.base + length pending → Keeps receiver number new → IsKeptSelective sender new pending messages acks
early {sender} {receiver} {pending} {messages} {acks} h number new sent kept = record {
  link = subst (λ (base : ℕ). IsKeptLink sender.base base pending messages (bases acks)) (sym kept.base) h.link;
  come = λ n is. elim (kept-or-had receiver new number kept n is) [
    | inl before ↦ omega (arith, kept.base, h.come n before)
    | inr it ↦ omega (arith, kept.base, it)
  ];
}

-- the window passed no more than is pending
pub few-passed : {sender receiver : Window} {pending : List (List ℕ)} {messages : List ℕ} {acks : List Window} → IsKeptSelective sender receiver pending messages acks → (new : Window) → receiver.base < receiver.base + length pending → Passes receiver new → new.base - receiver.base ≤ length pending
few-passed {sender} {receiver} {pending} {messages} {acks} h new some passed =
    let upto : new.base ≤ receiver.base + length pending = passes-sent receiver new (receiver.base + length pending) passed h.come some in
    omega arith

-- those that it passed are no longer pending
pub passed-on : {sender receiver : Window} {pending : List (List ℕ)} {messages : List ℕ} {acks : List Window} → IsKeptSelective sender receiver pending messages acks → (new : Window) (left : List (List ℕ)) → receiver.base < receiver.base + length pending → Passes receiver new → left ≡ drop (new.base - receiver.base) pending → IsKeptSelective sender new left messages acks
passed-on {sender} {receiver} {pending} {messages} {acks} h new left some passed e =
    let few : new.base - receiver.base ≤ length pending = few-passed h new some passed in
    let later : receiver.base < new.base = passed.later in
    let from : sender.base ≤ receiver.base = h.link.from in
    let shorter : length left ≡ length pending - (new.base - receiver.base) = ap length e ∙ length-drop (new.base - receiver.base) pending in
    let next : new.base + length left ≡ receiver.base + length pending = omega arith in
    record {
      link = record {
        from = omega arith;
        next = subst (λ (n : ℕ). n < 4294967296) (sym next) h.link.next;
        message_numbers = λ k d lt. omega (arith, next, h.link.message_numbers k d lt);
        ack_numbers = λ k d lt. omega (arith, later, h.link.ack_numbers k d lt);
        messages_fit = h.link.messages_fit;
        acks_fit = h.link.acks_fit;
      };
      come = λ n is. omega (arith, next, h.come n (had receiver new passed n is));
    }

-- all was let go
pub let-go : {sender receiver : Window} {pending : List (List ℕ)} {messages : List ℕ} {acks : List Window} → IsKeptSelective sender receiver pending messages acks → (pending' : List (List ℕ)) (messages' : List ℕ) (acks' : List Window) → pending' ≡ [] → messages' ≡ [] → acks' ≡ [] → IsKeptSelective sender (record { base = receiver.base; mask = 0 }) pending' messages' acks'
let-go {sender} {receiver} {pending} {messages} {acks} h pending' messages' acks' nothing unsent none =
    subst (λ (p : List (List ℕ)). IsKeptSelective sender (record { base = receiver.base; mask = 0 }) p messages' acks') (sym nothing)
    (subst (λ (m : List ℕ). IsKeptSelective sender (record { base = receiver.base; mask = 0 }) [] m acks') (sym unsent)
    (subst (λ (a : List Window). IsKeptSelective sender (record { base = receiver.base; mask = 0 }) [] [] a) (sym none) empty)) where
      next : receiver.base + length pending < 4294967296
      next = h.link.next

      empty : IsKeptSelective sender (record { base = receiver.base; mask = 0 }) [] [] []
      empty = record {
        link = record {
          from = h.link.from;
          next = omega (arith, next);
          message_numbers = All-nil (λ x. x < receiver.base + 0);
          ack_numbers = All-nil (λ x. x ≤ receiver.base);
          messages_fit = omega arith;
          acks_fit = omega arith;
        };
        come = λ n is. absurd (false≢true (sym (has-none receiver.base n) ∙ is));
      }

-- frames of kept messages were put
pub gaps_put : {sender receiver : Window} {pending : List (List ℕ)} {messages : List ℕ} {acks : List Window} → IsKeptSelective sender receiver pending messages acks → (wire : List ℕ) → PutsGaps messages sender (receiver.base + length pending - sender.base) wire → IsKeptSelective sender receiver pending wire acks
gaps_put {sender} {receiver} {pending} {messages} {acks} h wire puts =
    let from : sender.base ≤ receiver.base = h.link.from in
    let within : puts.passed ≤ receiver.base + length pending - sender.base = puts.within in
    record {
      link = record {
        from = h.link.from;
        next = h.link.next;
        message_numbers =
            subst (All (λ x. x < receiver.base + length pending)) (sym puts.put)
            (All-append (λ x. x < receiver.base + length pending) messages (gaps sender puts.passed) h.link.message_numbers
            (All-filter (λ number. not (has sender number)) (λ x. x < receiver.base + length pending) (range_with_len sender.base puts.passed)
            (All-range (λ x. x < receiver.base + length pending) sender.base puts.passed (λ x a b. omega (arith, within)))));
        ack_numbers = h.link.ack_numbers;
        messages_fit = puts.room;
        acks_fit = h.link.acks_fit;
      };
      come = h.come;
    }

-- the acknowledgement that is named, by its number
pub named-base : (acks : List Window) (k : ℕ) (ack : Window) → frame_at acks k ≡ Some ack → frame_at (bases acks) k ≡ Some ack.base
named-base acks k ack e = map-frame base_of acks k ∙ ap (option_map base_of) e

-- an acknowledgement was delivered
pub joined : {sender receiver : Window} {pending : List (List ℕ)} {messages : List ℕ} {acks : List Window} → IsKeptSelective sender receiver pending messages acks → (k : ℕ) (ack new : Window) (wire : List Window) → frame_at acks k ≡ Some ack → Joins sender ack new → wire ≡ without_frame acks k → IsKeptSelective new receiver pending messages wire
joined {sender} {receiver} {pending} {messages} {acks} h k ack new wire named join e = record {
  link = acked h.link k ack.base new.base (bases wire) (named-base acks k ack named) join.base (ap bases e ∙ map-without base_of acks k);
  come = h.come;
}

-- ---- what a call gave

-- a frame was copied, or memory did not suffice
pub acks_repeated : {T E : Type 0} {sender receiver : Window} {pending : List (List ℕ)} {messages : List ℕ} {acks : List Window} → IsKeptSelective sender receiver pending messages acks → (r : Result T E) (k : ℕ) (wire : List Window)
    → OnOk r (wire ≡ with_copy acks k) → OnErr r (wire ≡ acks) → IsKeptSelective sender receiver pending messages wire
acks_repeated h (Ok x) k wire copied same = ack_copied h k wire copied
acks_repeated {T} {E} {sender} {receiver} {pending} {messages} h (Err x) k wire copied same = subst (IsKeptSelective sender receiver pending messages) (sym same) h

pub messages_repeated : {T E : Type 0} {sender receiver : Window} {pending : List (List ℕ)} {messages : List ℕ} {acks : List Window} → IsKeptSelective sender receiver pending messages acks → (r : Result T E) (k : ℕ) (wire : List ℕ)
    → OnOk r (wire ≡ with_copy messages k) → OnErr r (wire ≡ messages) → IsKeptSelective sender receiver pending wire acks
messages_repeated h (Ok x) k wire copied same = message_copied h k wire copied
messages_repeated {T} {E} {sender} {receiver} {pending} {messages} {acks} h (Err x) k wire copied same = subst (λ (w : List ℕ). IsKeptSelective sender receiver pending w acks) (sym same) h

-- the link as it is seen then
pub repeated_view : {T E : Type 0} (r : Result T E) (first number : ℕ) (pending : List (List ℕ)) (messages : List ℕ) (acks wire : List Window) (k : ℕ) (old : LinkView)
    → link_view first number pending messages (bases acks) ≡ old → OnOk r (wire ≡ with_copy acks k) → OnOk r (link_view first number pending messages (bases wire) ≡ after_repeat old Acks k)
repeated_view (Ok x) first number pending messages acks wire k old viewed e =
    ap (link_view first number pending messages) (ap bases e ∙ map-copy base_of acks k) ∙ ap (λ (l : LinkView). after_repeat l Acks k) viewed
repeated_view (Err x) first number pending messages acks wire k old viewed e = e

pub lost_view : (first number : ℕ) (pending : List (List ℕ)) (messages : List ℕ) (acks wire : List Window) (k : ℕ) (old : LinkView)
    → link_view first number pending messages (bases acks) ≡ old → wire ≡ without_frame acks k → link_view first number pending messages (bases wire) ≡ after_lose old Acks k
lost_view first number pending messages acks wire k old viewed e =
    ap (link_view first number pending messages) (ap bases e ∙ map-without base_of acks k) ∙ ap (λ (l : LinkView). after_lose l Acks k) viewed

-- what was taken off the front, and what is left
pub parted : (pending taken left : List (Vec ℕ)) (n : ℕ) → taken ≡ take n pending → left ≡ drop n pending → map (λ v. v.items) pending ≡ map (λ v. v.items) taken ++ map (λ v. v.items) left
parted pending taken left n front rest =
    ap (map (λ (v : Vec ℕ). v.items)) (sym (take-append-drop n pending))
    ∙ map-append (λ (v : Vec ℕ). v.items) (take n pending) (drop n pending)
    ∙ (λ i. map (λ (v : Vec ℕ). v.items) (sym front i) ++ map (λ (v : Vec ℕ). v.items) (sym rest i))
