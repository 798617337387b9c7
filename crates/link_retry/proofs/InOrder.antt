-- What was taken, and then what is pending, is what was pending before and what was sent since.
use Rattle.std.proofs.Common.{◌≡◌, List, [], ◌∷◌, ◌++◌, ℕ, sym, ap, ◌∙◌, refl, append_assoc, append-nil}
use Rattle.mind_base.specs.declared.links.Side.{Side}
use Rattle.mind_base.specs.declared.links.Side.TheVariants.{Messages, Acks}
use Rattle.std.specs.Prelude.{Option, Some, None}
use Rattle.link_retry.specs.Link.{LinkView, FrameDelivers, DeliversMessage, DeliversAck, after_lose, after_repeat}
use Rattle.link_retry.specs.Wire.{frame_at}
use Rattle.link_retry.specs.Run.{LinkCall, Send, Deliver, Lose, Repeat, Resend, LinkRun, sent_by, taken_by}

message_keeps : (old : LinkView) (k : ℕ) (frame : Option ℕ) (taken : List (List ℕ)) (new : LinkView) → DeliversMessage old k frame taken new → old.pending ≡ taken ++ new.pending
message_keeps old k None taken new d = cc
message_keeps old k (Some number) taken new d = d.prefix

ack_keeps : (old : LinkView) (k : ℕ) (frame : Option ℕ) (taken : List (List ℕ)) (new : LinkView) → DeliversAck old k frame taken new → old.pending ≡ taken ++ new.pending
ack_keeps old k None taken new d = cc
ack_keeps old k (Some number) taken new d = sym d.pending ∙ ap (λ (t : List (List ℕ)). t ++ new.pending) (sym d.none)

-- what is taken is the front of what was pending
pub deliver_keeps : (old : LinkView) (side : Side) (k : ℕ) (taken : List (List ℕ)) (new : LinkView) → FrameDelivers old side k taken new → old.pending ≡ taken ++ new.pending
deliver_keeps old Messages k taken new d = message_keeps old k (frame_at old.messages k) taken new d
deliver_keeps old Acks k taken new d = ack_keeps old k (frame_at old.acks k) taken new d

lose_keeps : (old : LinkView) (side : Side) (k : ℕ) → (after_lose old side k).pending ≡ old.pending
lose_keeps old Messages k = refl
lose_keeps old Acks k = refl

repeat_keeps : (old : LinkView) (side : Side) (k : ℕ) → (after_repeat old side k).pending ≡ old.pending
repeat_keeps old Messages k = refl
repeat_keeps old Acks k = refl

pub in_order : (old : LinkView) (calls : List LinkCall) (new : LinkView) → LinkRun old calls new → taken_by calls ++ new.pending ≡ old.pending ++ sent_by calls
in_order old [] new r = ap (λ (l : LinkView). l.pending) r ∙ sym (append-nil old.pending)
in_order old (Send message ∷ calls) new r =
    in_order r.0 calls new r.2 ∙ ap (λ (l : LinkView). l.pending ++ sent_by calls) r.1 ∙ append_assoc old.pending (message ∷ []) (sent_by calls)
in_order old (Deliver side k taken ∷ calls) new r =
    append_assoc taken (taken_by calls) new.pending ∙ ap (λ (p : List (List ℕ)). taken ++ p) (in_order r.0 calls new r.2)
    ∙ sym (append_assoc taken r.0.pending (sent_by calls)) ∙ ap (λ (p : List (List ℕ)). p ++ sent_by calls) (sym (deliver_keeps old side k taken r.0 r.1))
in_order old (Lose side k ∷ calls) new r =
    in_order r.0 calls new r.2 ∙ ap (λ (l : LinkView). l.pending ++ sent_by calls) r.1 ∙ ap (λ (p : List (List ℕ)). p ++ sent_by calls) (lose_keeps old side k)
in_order old (Repeat side k ∷ calls) new r =
    in_order r.0 calls new r.2 ∙ ap (λ (l : LinkView). l.pending ++ sent_by calls) r.1 ∙ ap (λ (p : List (List ℕ)). p ++ sent_by calls) (repeat_keeps old side k)
in_order old (Resend ∷ calls) new r =
    in_order r.0 calls new r.2 ∙ ap (λ (l : LinkView). l.pending ++ sent_by calls) r.1.2
