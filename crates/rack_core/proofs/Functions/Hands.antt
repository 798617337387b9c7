-- The code hands over what a link gave: message by message, each to the node at the link's end.
use Rattle.std.proofs.Common.{◌≡◌, refl, sym, ap, subst, ◌∙◌, ℕ, List, [], ◌∷◌, ◌++◌, reverse}
use Rattle.std.proofs.lemmas.List.{reverse-append, append-nil, append_assoc}
use Rattle.mind_base.specs.Fit.{IsFit}
use Rattle.mind_base.specs.declared.events.Event.TheVariants.{Deliver}
use Rattle.mind_base.specs.declared.images.Image.{Image}
use Rattle.mind_base.specs.declared.links.LinkName.{LinkName}
use Rattle.mind_base.specs.declared.links.Side.{Side}
use Rattle.mind_base.specs.declared.notes.Note.{Note}
use Rattle.wire_msg.specs.declared.msgs.Msg.{Msg}
use Rattle.rack_net.specs.Net.{NetView, ChangesOnly, links_of}
use Rattle.rack_core.specs.Calls.{HasLink, IsKept, Notes}
use Rattle.rack_core.specs.Events.{Hands, HandsTo, HandsAll, Leads}
use Rattle.rack_core.specs.Handing.{IsHanding}
use Rattle.rack_core.specs.Rack.{RackView, with_net}
use Rattle.coherence.specs.Facts.{IsCoherent}
use Rattle.rack_core.proofs.Functions.Events.{few-links}
use Rattle.rack_core.proofs.Events.Delivering.{gave_on, with_net-sound, asks_taken}
use Rattle.rack_core.proofs.Events.Handing.{handed_over}

-- ---- one after another

-- What is still to be handed over from here is the rest of what was to be handed over at first; these notes were made.
pub record HandsOnward (images : List Image) (link : LinkName) (rest all : List Msg) (first : RackView) (notes : List Note) (now : RackView) (notes' : List Note) : Type 0 where
  pub made : List Note
  pub noted : notes' ≡ notes ++ made
  pub onward : (last : RackView) (later : List Note) → HandsAll images link rest now last later → HandsAll images link all first last (made ++ later)

pub none-handed : (images : List Image) (link : LinkName) (all : List Msg) (first : RackView) (notes : List Note) → HandsOnward images link all all first notes first notes
none-handed images link all first notes = record { made = []; noted = sym (append-nil notes); onward = λ last later h. h }

pub one-handed : (images : List Image) (link : LinkName) (message : Msg) (rest all : List Msg) (first now next : RackView) (notes notes' notes'' : List Note)
    → HandsOnward images link (message ∷ rest) all first notes now notes' → Notes (HandsTo link.kind images link.number message now next) notes' notes''
    → HandsOnward images link rest all first notes next notes''
one-handed images link message rest all first now next notes notes' notes'' before hands = record {
  made = before.made ++ hands.0;
  noted = hands.2 ∙ ap (λ ns. ns ++ hands.0) before.noted ∙ append_assoc notes before.made hands.0;
  onward = λ last later h. subst (HandsAll images link all first last) (sym (append_assoc before.made hands.0 later))
      (before.onward last (hands.0 ++ later) (next, hands.0, later, hands.1, h, refl));
}

pub all-handed-over : (images : List Image) (link : LinkName) (all : List Msg) (first now : RackView) (notes notes' : List Note)
    → HandsOnward images link [] all first notes now notes' → Notes (HandsAll images link all first now) notes notes'
all-handed-over images link all first now notes notes' h =
    (h.made, subst (HandsAll images link all first now) (append-nil h.made) (h.onward now [] (refl, refl)), h.noted)

-- the last of a list is the first of the list from its end
pub last-first : (left rest : List Msg) (message : Msg) → left ≡ rest ++ message ∷ [] → reverse left ≡ message ∷ reverse rest
last-first left rest message is = ap reverse is ∙ reverse-append rest (message ∷ [])

-- what is still to be handed over may be
pub handing-next : (images : List Image) (link : LinkName) (message : Msg) (rest : List Msg) (old new : RackView) (notes notes' : List Note) → IsFit old.plan → HasLink old.plan link
    → IsHanding link (message ∷ rest) old → Notes (HandsTo link.kind images link.number message old new) notes notes' → IsHanding link rest new
handing-next images link message rest old new notes notes' fit of_plan handing hands =
    let after = handed_over images link.kind link.number message rest old new handing.flat hands.0 handing.coherent handing.sound (few-links old.plan link.number link.kind fit of_plan) handing.asks.0 hands.1 in
    record {
      flat = after.flat;
      coherent = after.coherent;
      sound = after.sound;
      asks = subst (λ f. Rattle.rack_core.specs.Handing.AskOn link.kind f link.number rest) (sym after.places) handing.asks.1;
    }

-- what a link gave may be handed over
pub handing-first : (link : LinkName) (side : Side) (k : ℕ) (taken : List Msg) (old : RackView) (net : NetView) → IsKept old → Hands (links_of old.net link) side k taken (links_of net link)
    → ChangesOnly link old.net net → IsHanding link taken (with_net net old)
handing-first link side k taken old net kept hands only = record {
  flat = kept.safe.flat;
  coherent = subst IsCoherent (gave_on link.kind link.number taken old net kept.safe.flat hands.fifo only) kept.safe.coherent;
  sound = with_net-sound link.kind link.number taken old net hands.fifo only kept.safe.sound;
  asks = asks_taken link.kind link.number taken old net hands.fifo kept.safe.sound.asked;
}

-- a delivery is what the link gave, handed over
pub delivered : (images : List Image) (link : LinkName) (side : Side) (k : ℕ) (taken : List Msg) (old new : RackView) (net : NetView) (notes notes' : List Note)
    → Hands (links_of old.net link) side k taken (links_of net link) → ChangesOnly link old.net net
    → Notes (HandsAll images link taken (with_net net old) new) notes notes' → Notes (Leads images (Deliver link side k) old new) notes notes'
delivered images link side k taken old new net notes notes' hands only handed =
    (handed.0, record { net = net; taken = taken; gives = hands; only = only; handed = handed.1 }, handed.2)
