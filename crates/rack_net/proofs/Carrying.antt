-- What a call on a link does to it as a queue of messages.
use Rattle.std.proofs.Common.{◌≡◌, ℕ, ◌+◌, ◌<◌, List, [], ◌∷◌, ◌++◌, map, length, take, get_or, All, refl, sym, ap, ◌∙◌, subst, arith}
use Rattle.std.specs.Prelude.{Result, Ok, Err, OnOk}
use Rattle.std.specs.Global.{Vec}
use Rattle.std.proofs.lemmas.List.{map-append, take_more, get_or-map, length-map}
use Rattle.std.proofs.lemmas.List.Elements.{All-push}
use Rattle.mind_base.specs.declared.links.Side.{Side}
use Rattle.link_retry.specs.Link.{LinkView, IsLink, after_send, FrameDelivers}
use Rattle.link_retry.specs.SelectiveRepeat.{SelectiveView, after_resend}
use Rattle.link_retry.proofs.Callers.{deliver_keeps}
use Rattle.wire_msg.specs.declared.msgs.Msg.{Msg}
use Rattle.wire_msg.specs.Spelling.{spelling}
use Rattle.wire_msg.specs.WellFormed.{IsWellFormed}
use Rattle.rack_net.specs.Net.{spelled, with_windows}
use Rattle.rack_net.specs.Kept.{IsSpelled, IsHeld, message_spelled, queue_of, link_of}
use Rattle.rack_net.proofs.Texts.{read-spelling, spelled-read, spelled-link_of, selective-link_of, front-spelled, rest-spelled}

-- a sent message is spelled, and read again
pub held-sent : (old new : SelectiveView) (message : Msg) → IsHeld old → IsWellFormed message → IsLink new.link → new.link ≡ after_send old.link (spelling message) → IsHeld new
held-sent old new message held formed sound sent = record {
  sound = sound;
  spelled =
      subst (λ (l : LinkView). All IsSpelled l.pending) (sym sent)
      (All-push IsSpelled old.link.pending (spelling message) held.spelled (record { message = message; formed = formed; spelled = refl }));
}

pub fifo-sent : (old new : SelectiveView) (message : Msg) → IsWellFormed message → new.link ≡ after_send old.link (spelling message) → (link_of new).pending ≡ (link_of old).pending ++ message ∷ []
fifo-sent old new message formed sent =
    ap (λ (l : LinkView). map message_spelled l.pending) sent
    ∙ map-append message_spelled old.link.pending (spelling message ∷ [])
    ∙ ap (λ (m : Msg). map message_spelled old.link.pending ++ m ∷ []) (read-spelling message formed)

pub link-sent : (old new : SelectiveView) (message : Msg) → IsHeld old → IsHeld new → new.link ≡ after_send old.link (spelling message) → spelled (link_of new) ≡ after_send (spelled (link_of old)) (spelling message)
link-sent old new message held held' sent =
    spelled-link_of new held'.spelled
    ∙ sent
    ∙ ap (λ (l : LinkView). after_send l (spelling message)) (sym (spelled-link_of old held.spelled))

parted : (old : SelectiveView) (side : Side) (k : ℕ) (taken : List (List ℕ)) (new : SelectiveView) → IsHeld old → FrameDelivers old.link side k taken new.link → All IsSpelled (taken ++ new.link.pending)
parted old side k taken new held d = subst (All IsSpelled) (deliver_keeps old.link side k taken new.link d) held.spelled

pub taken-spelled : (old : SelectiveView) (side : Side) (k : ℕ) (taken : List (List ℕ)) (new : SelectiveView) → IsHeld old → FrameDelivers old.link side k taken new.link → All IsSpelled taken
taken-spelled old side k taken new held d = front-spelled taken new.link.pending (parted old side k taken new held d)

pub held-delivered : (old : SelectiveView) (side : Side) (k : ℕ) (taken : List (List ℕ)) (new : SelectiveView) → IsHeld old → IsLink new.link → FrameDelivers old.link side k taken new.link → IsHeld new
held-delivered old side k taken new held sound d = record {
  sound = sound;
  spelled = rest-spelled taken new.link.pending (parted old side k taken new held d);
}

pub fifo-delivered : (old : SelectiveView) (side : Side) (k : ℕ) (taken : List (List ℕ)) (new : SelectiveView) → FrameDelivers old.link side k taken new.link → (link_of old).pending ≡ map message_spelled taken ++ (link_of new).pending
fifo-delivered old side k taken new d = ap (map message_spelled) (deliver_keeps old.link side k taken new.link d) ∙ map-append message_spelled taken new.link.pending

-- what holds of a delivery on a link holds of it as a queue of messages
pub as-messages : (P : SelectiveView → List (List ℕ) → SelectiveView → Type 0) (old : SelectiveView) (side : Side) (k : ℕ) (taken : List (List ℕ)) (new : SelectiveView) → IsHeld old → IsLink new.link → FrameDelivers old.link side k taken new.link → P old taken new → P (with_windows (link_of old)) (map spelling (map message_spelled taken)) (with_windows (link_of new))
as-messages P old side k taken new held sound d p =
    subst (λ (l : SelectiveView). P l (map spelling (map message_spelled taken)) (with_windows (link_of new))) (sym (selective-link_of old held.spelled))
    (subst (λ (l : SelectiveView). P old (map spelling (map message_spelled taken)) l) (sym (selective-link_of new (held-delivered old side k taken new held sound d).spelled))
    (subst (λ (t : List (List ℕ)). P old t new) (sym (spelled-read taken (taken-spelled old side k taken new held d))) p))

-- the frames that are sent again go by numbers alone
pub link-resent : {T E : Type 0} (r : Result T E) (old new : SelectiveView) → OnOk r (new.link ≡ after_resend old) → OnOk r (spelled (link_of new) ≡ after_resend (with_windows (link_of old)))
link-resent (Ok x) old new e = ap (λ (l : LinkView). spelled (queue_of l new.windows)) e
link-resent (Err x) old new e = e

-- what follows from what an Ok says
pub on_ok : {T E : Type 0} {A B : Type 0} (r : Result T E) → OnOk r A → (A → B) → OnOk r B
on_ok (Ok x) a f = f a
on_ok (Err e) a f = a

-- what holds of the messages that these texts spell holds of those that were read from them
pub when-read : (P : List Msg → Type 0) (messages : List Msg) (texts taken : List (Vec ℕ)) → messages ≡ map message_spelled (map (λ v. v.items) texts) → texts ≡ taken → P (map message_spelled (map (λ v. v.items) taken)) → P messages
when-read P messages texts taken read same p =
    subst P (sym (read ∙ ap (λ (texts : List (Vec ℕ)). map message_spelled (map (λ v. v.items) texts)) same)) p

-- one more message is read
pub read-more : (texts : List (Vec ℕ)) (i : ℕ) (text : Vec ℕ) → i < length texts → text ≡ get_or texts i text → map message_spelled (map (λ v. v.items) (take (i + 1) texts)) ≡ map message_spelled (map (λ v. v.items) (take i texts)) ++ message_spelled text.items ∷ []
read-more texts i text inside there =
    ap (λ (l : List (Vec ℕ)). map message_spelled (map (λ v. v.items) l)) (take_more texts i text inside ∙ ap (λ (v : Vec ℕ). take i texts ++ v ∷ []) (sym there))
    ∙ ap (map message_spelled) (map-append (λ (v : Vec ℕ). v.items) (take i texts) (text ∷ []))
    ∙ map-append message_spelled (map (λ v. v.items) (take i texts)) (text.items ∷ [])

-- a text among spelled ones is spelled
pub text-spelled : (texts : List (Vec ℕ)) (i : ℕ) (text : Vec ℕ) → i < length texts → text ≡ get_or texts i text → All IsSpelled (map (λ v. v.items) texts) → IsSpelled text.items
text-spelled texts i text inside there h =
    subst IsSpelled (get_or-map (λ (v : Vec ℕ). v.items) texts i text text.items inside ∙ ap (λ (v : Vec ℕ). v.items) (sym there))
    (h i text.items (omega (arith, length-map texts (λ (v : Vec ℕ). v.items))))
