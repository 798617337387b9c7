-- Messages of a node go onto their links, one after another; and what a blade sends may be sent.
use Rattle.std.proofs.Common.{◌≡◌, sym, ap, subst, ◌∙◌, ◌<◌, Bool, true, false, List, [], ◌∷◌}
use Rattle.std.specs.Prelude.{if◌then◌else◌}
use Rattle.std.specs.List.{AllByRecursion}
use Rattle.mind_base.specs.declared.links.LinkName.{LinkName}
use Rattle.page_cache.specs.declared.frames.Frame.{Frame}
use Rattle.wire_msg.specs.WellFormed.{FieldsAgree}
use Rattle.wire_msg.specs.declared.msgs.Msg.{Msg}
use Rattle.mind_base.specs.Page.{PageView}
use Rattle.compute_blade.specs.Actions.{Action, GivesUp, Lowers, Takes, Asks, Wakes, Performs, Refuses, Drains, Acks, after_action, after_actions, IsActions}
use Rattle.compute_blade.specs.Blade.{BladeView, BladeEffect}
use Rattle.compute_blade.specs.Pages.{back_of}
use Rattle.rack_net.specs.Net.{NetView, IsLinkOf, links_of_kind}
use Rattle.rack_core.specs.Events.{SendsOn, SendsAll}
use Rattle.switch_core.proofs.Callers.{all-append}

-- ---- one after another

-- what is still to be sent from here is the rest of what was to be sent at first
abbrev pub SendsOnward : List (LinkName × Msg) → List (LinkName × Msg) → NetView → NetView → Type 0
SendsOnward rest all first now = (last : NetView) → SendsAll rest now last → SendsAll all first last

pub sent-one : (name : LinkName) (message : Msg) (rest all : List (LinkName × Msg)) (first now next : NetView)
    → SendsOnward ((name, message) ∷ rest) all first now → SendsOn name message now next → SendsOnward rest all first next
sent-one name message rest all first now next onward sends last more = onward last (next, sends, more)

-- a link of the net is one still
pub still-link : (name other : LinkName) (message : Msg) (now next : NetView) → SendsOn other message now next → IsLinkOf now name → IsLinkOf next name
still-link name other message now next sends is =
    subst (λ m. name.number < links_of_kind next.blades m name.kind) (sym sends.1.memories)
    (subst (λ b. name.number < links_of_kind b now.memories name.kind) (sym sends.1.blades) is)

-- so are the links of all that is still to be sent
pub still-links : (other : LinkName) (message : Msg) (now next : NetView) → SendsOn other message now next → (rest : List (LinkName × Msg))
    → AllByRecursion (λ sent. IsLinkOf now sent.0 × FieldsAgree sent.1) rest → AllByRecursion (λ sent. IsLinkOf next sent.0 × FieldsAgree sent.1) rest
still-links other message now next sends [] all = tt
still-links other message now next sends (sent ∷ rest) all =
    ((still-link sent.0 other message now next sends all.0.0, all.0.1), still-links other message now next sends rest all.1)

-- as many blades as before
pub as-many : (messages : List (LinkName × Msg)) (old new : NetView) → SendsAll messages old new → (new.blades ≡ old.blades) × (new.memories ≡ old.memories)
as-many [] old new sent = (ap (λ (n : NetView). n.blades) sent, ap (λ (n : NetView). n.memories) sent)
as-many (message ∷ messages) old new sent =
    let rest = as-many messages sent.0 new sent.2 in
    (rest.0 ∙ sent.1.1.blades, rest.1 ∙ sent.1.1.memories)

-- ---- what a blade sends

back-agrees : (page : PageView) (frame : Frame) → AllByRecursion FieldsAgree (back_of page frame)
back-agrees page frame = by frame.dirty where
  by : (b : Bool) → AllByRecursion FieldsAgree (if b then Rattle.wire_msg.specs.declared.msgs.Msg.TheVariants.Back page frame.image ∷ [] else [])
  by true = (tt, tt)
  by false = tt

action-agrees : (action : Action) (blade : BladeView) → AllByRecursion FieldsAgree (after_action action blade).sent
action-agrees (GivesUp page frame) blade = back-agrees page frame
action-agrees (Lowers page frame) blade = back-agrees page frame
action-agrees (Takes page frame) blade = tt
action-agrees (Asks h hart waits need) blade = (tt, tt)
action-agrees (Wakes hart asked) blade = tt
action-agrees (Performs h hart plan found pc deed) blade = tt
action-agrees (Refuses h hart denial pc) blade = tt
action-agrees (Drains h hart plan oldest newer) blade = tt
action-agrees (Acks number count) blade = (tt, tt)

actions-agree : (actions : List Action) (blade : BladeView) → AllByRecursion FieldsAgree (after_actions actions blade).sent
actions-agree [] blade = tt
actions-agree (action ∷ actions) blade =
    all-append FieldsAgree (after_action action blade).sent (after_actions actions (after_action action blade).blade).sent
    (action-agrees action blade) (actions-agree actions (after_action action blade).blade)

-- what actions send may be sent
pub sent-agrees : (blade : BladeView) (e : BladeEffect) → IsActions blade e → AllByRecursion FieldsAgree e.sent
sent-agrees blade e is = subst (λ (x : BladeEffect). AllByRecursion FieldsAgree x.sent) (sym is.done) (actions-agree is.actions blade)
