-- A message that is handed over: the rack weighs less than it did with the message.
use Rattle.std.proofs.Common.{◌≡◌, refl, sym, ap, subst, ◌∙◌, ℕ, ◌+◌, ◌<◌, ◌≤◌, List, [], ◌∷◌, length, map, slice_get, slice_set, Option, Some, arith}
use Rattle.std.specs.List.{sum}
use Rattle.std.proofs.lemmas.Option.{same_Some}
use Rattle.mind_base.specs.Page.{PageView}
use Rattle.mind_base.specs.declared.events.Event.TheVariants.{Drain}
use Rattle.mind_base.specs.declared.images.Image.{Image}
use Rattle.mind_base.specs.declared.links.LinkKind.{LinkKind}
use Rattle.mind_base.specs.declared.links.LinkKind.TheVariants.{Up, Down, To, From}
use Rattle.mind_base.specs.declared.links.LinkName.{LinkName}
use Rattle.mind_base.specs.declared.links.Side.{Side}
use Rattle.mind_base.specs.declared.notes.Note.{Note}
use Rattle.mind_base.specs.declared.plans.ThreadPlan.{ThreadPlan}
use Rattle.page_image.specs.PageImage.{PageImageView}
use Rattle.wire_msg.specs.declared.msgs.Msg.{Msg}
use Rattle.compute_blade.specs.Blade.{BladeEffect, BladeView}
use Rattle.compute_blade.specs.Messages.{after_message}
use Rattle.compute_blade.specs.Steps.{blade_after_drain}
use Rattle.memory_blade.specs.MemoryBlade as memory
use Rattle.rack_net.specs.Net.{NetView, IsLinkOf, links_of}
use Rattle.switch_core.specs.Switch.{place_in}
use Rattle.coherence.specs.Facts.{IsCoherent}
use Rattle.rack_core.specs.Events.{BladeDoes, HartDoes, HandsTo, HandsAll, Delivers, Leads, SwitchHears, on, answer_to_switch}
use Rattle.rack_core.specs.Handing.{AskOn}
use Rattle.rack_core.specs.Rack.{RackView, with_net}
use Rattle.rack_core.specs.Safe.{IsSafe, IsSound}
use Rattle.rack_core.specs.Seen.{seen}
use Rattle.rack_core.specs.SwitchMoves.{with_front}
use Rattle.rack_core.proofs.Callers.{did, handed_may_come, gave_on, with_net-sound, asks_taken, each-handed, as-many}
use Rattle.rack_settle.specs.Weight.{weight_of, messages_weight, sent_weight, blade_weight, switch_weight, net_weight, rack_weight, HasToDrain}
use Rattle.rack_settle.proofs.BladeWeights.{blade_lightens, drain_lightens}
use Rattle.rack_settle.proofs.MemoryWeights.{memory_lightens}
use Rattle.rack_settle.proofs.SwitchWeights.{switch_lightens}
use Rattle.rack_settle.proofs.LinkSums.{changed_on}
use Rattle.rack_settle.proofs.ListSums.{sum-set}
use Rattle.rack_settle.proofs.SentWeights.{messages-cons, messages-append, sent-on, sends-weigh}

-- ---- all blades

abbrev pub blades_weight : List BladeView → ℕ
blades_weight all = sum (map blade_weight all)

-- one blade changed
blades-set : (all : List BladeView) (c : ℕ) (old new : BladeView) → slice_get all c ≡ Some old
    → blades_weight (slice_set all c new) + blade_weight old ≡ blades_weight all + blade_weight new
blades-set all c old new is = sum-set blade_weight all c old new is

-- ---- one message

switch-lightens : (name : LinkName) (message : Msg) (old new : RackView) (noted : List Note) → SwitchHears name message old new noted
    → rack_weight new + 1 ≤ rack_weight old + weight_of message
switch-lightens name message old new noted hears =
    let after : rack_weight new ≡ blades_weight old.blades + switch_weight hears.effect.switch + net_weight hears.net = ap rack_weight hears.after in
    let node : switch_weight hears.effect.switch + sent_weight hears.effect.sent + 1 ≤ switch_weight old.switch + weight_of message =
    switch_lightens name message old.switch hears.effect hears.heard in
    let links : net_weight hears.net ≤ net_weight old.net + sent_weight hears.effect.sent = sends-weigh hears.effect.sent old.net hears.net hears.sent in
    omega (arith, after, node, links)

-- a blade does something: the rack changes in weight as the blade does with what it sends
blade-acts : (number : ℕ) (act : BladeView → Option BladeEffect) (old new : RackView) (noted : List Note) (more less : ℕ) → BladeDoes number act old new noted
    → ((blade : BladeView) (effect : BladeEffect) → slice_get old.blades number ≡ Some blade → act blade ≡ Some effect → blade_weight effect.blade + messages_weight effect.sent + less ≤ blade_weight blade + more)
    → rack_weight new + less ≤ rack_weight old + more
blade-acts number act old new noted more less does weighs =
    let d = did number act old new noted does in
    let after : rack_weight new ≡ blades_weight (slice_set old.blades number d.effect.blade) + switch_weight old.switch + net_weight d.acts.net = ap rack_weight d.acts.after in
    let node : blade_weight d.effect.blade + messages_weight d.effect.sent + less ≤ blade_weight d.blade + more = weighs d.blade d.effect d.there d.does in
    let others : blades_weight (slice_set old.blades number d.effect.blade) + blade_weight d.blade ≡ blades_weight old.blades + blade_weight d.effect.blade =
    blades-set old.blades number d.blade d.effect.blade d.there in
    let links : net_weight d.acts.net ≤ net_weight old.net + sent_weight (on Up number d.effect.sent) = sends-weigh (on Up number d.effect.sent) old.net d.acts.net d.acts.sent in
    omega (arith, after, node, others, links, sent-on Up number d.effect.sent)

blade-lightens : (images : List Image) (number : ℕ) (message : Msg) (rest : List Msg) (old new : RackView) (flat : PageView → PageImageView) (noted : List Note)
    → IsCoherent (with_front Down number (message ∷ rest) (seen old flat)) → IsSound old → HandsTo Down images number message old new noted
    → rack_weight new + 1 ≤ rack_weight old + weight_of message
blade-lightens images number message rest old new flat noted safe sound hands =
    blade-acts number (λ blade. Some (after_message images message blade)) old new noted (weight_of message) 1 hands
    (λ blade effect there does. subst (λ (e : BladeEffect). blade_weight e.blade + messages_weight e.sent + 1 ≤ blade_weight blade + weight_of message)
    (same_Some (after_message images message blade) effect does)
    (blade_lightens images message blade (sound.blades number blade there).requests (handed_may_come images old flat number blade message rest safe sound.blades there)))

memory-lightens : (images : List Image) (number : ℕ) (message : Msg) (old new : RackView) (noted : List Note) → HandsTo To images number message old new noted
    → rack_weight new + 1 ≤ rack_weight old + weight_of message
memory-lightens images number message old new noted hears =
    let sent = answer_to_switch number (memory.answer_to hears.images message) in
    let after : rack_weight new ≡ blades_weight old.blades + switch_weight old.switch + net_weight hears.net = ap rack_weight hears.after in
    let node : sent_weight sent + 1 ≤ weight_of message = memory_lightens number hears.images message in
    let links : net_weight hears.net ≤ net_weight old.net + sent_weight sent = sends-weigh sent old.net hears.net hears.sent in
    omega (arith, after, node, links)

one-lightens : (images : List Image) (kind : LinkKind) (number : ℕ) (message : Msg) (rest : List Msg) (old new : RackView) (flat : PageView → PageImageView) (noted : List Note)
    → IsCoherent (with_front kind number (message ∷ rest) (seen old flat)) → IsSound old → HandsTo kind images number message old new noted
    → rack_weight new + 1 ≤ rack_weight old + weight_of message
one-lightens images Up number message rest old new flat noted safe sound hands = switch-lightens (record { kind = Up; number = number }) message old new noted hands
one-lightens images Down number message rest old new flat noted safe sound hands = blade-lightens images number message rest old new flat noted safe sound hands
one-lightens images To number message rest old new flat noted safe sound hands = memory-lightens images number message old new noted hands
one-lightens images From number message rest old new flat noted safe sound hands = switch-lightens (record { kind = From; number = number }) message old new noted hands

-- there are as many links as before
abbrev pub AsManyLinks : NetView → NetView → Type 0
AsManyLinks old new = (new.blades ≡ old.blades) × (new.memories ≡ old.memories)

then-as-many : (first mid last : NetView) → AsManyLinks first mid → AsManyLinks mid last → AsManyLinks first last
then-as-many first mid last a b = (b.0 ∙ a.0, b.1 ∙ a.1)

one-as-many : (images : List Image) (kind : LinkKind) (number : ℕ) (message : Msg) (old new : RackView) (noted : List Note)
    → HandsTo kind images number message old new noted → AsManyLinks old.net new.net
one-as-many images Up number message old new noted hands =
    subst (λ (r : RackView). AsManyLinks old.net r.net) (sym hands.after) (as-many hands.effect.sent old.net hands.net hands.sent)
one-as-many images Down number message old new noted hands =
    let d = did number (λ blade. Some (after_message images message blade)) old new noted hands in
    subst (λ (r : RackView). AsManyLinks old.net r.net) (sym d.acts.after) (as-many (on Up number d.effect.sent) old.net d.acts.net d.acts.sent)
one-as-many images To number message old new noted hands =
    subst (λ (r : RackView). AsManyLinks old.net r.net) (sym hands.after) (as-many (answer_to_switch number (memory.answer_to hands.images message)) old.net hands.net hands.sent)
one-as-many images From number message old new noted hands =
    subst (λ (r : RackView). AsManyLinks old.net r.net) (sym hands.after) (as-many hands.effect.sent old.net hands.net hands.sent)

-- ---- all messages that a link gave

all-lighten : (images : List Image) (kind : LinkKind) (number : ℕ) (messages : List Msg) (old new : RackView) (flat : PageView → PageImageView) (noted : List Note)
    → IsCoherent (with_front kind number messages (seen old flat)) → IsSound old → number < 8 → AskOn kind (place_in old.switch) number messages
    → HandsAll images (record { kind = kind; number = number }) messages old new noted → rack_weight new + length messages ≤ rack_weight old + messages_weight messages
all-lighten images kind number =
    each-handed images kind number (λ messages old new noted. rack_weight new + length messages ≤ rack_weight old + messages_weight messages)
    (λ old new noted same none. let weight : rack_weight new ≡ rack_weight old = ap rack_weight same in omega (arith, weight))
    (λ message rest old mid new flat first later safe sound hands lighter.
    let one : rack_weight mid + 1 ≤ rack_weight old + weight_of message = one-lightens images kind number message rest old mid flat first safe sound hands in
    omega (arith, one, lighter, messages-cons message rest))

all-as-many : (images : List Image) (name : LinkName) (messages : List Msg) (old new : RackView) (noted : List Note) → HandsAll images name messages old new noted → AsManyLinks old.net new.net
all-as-many images name [] old new noted hands = subst (λ (r : RackView). AsManyLinks old.net r.net) (sym hands.0) (refl, refl)
all-as-many images name (message ∷ rest) old new noted hands =
    then-as-many old.net hands.0.net new.net (one-as-many images name.kind name.number message old hands.0 hands.1 hands.3)
    (all-as-many images name rest hands.0 new hands.2 hands.4)

-- ---- a delivery

-- each message that the link gave and that was handled makes the rack weigh less
pub delivery-lightens : (images : List Image) (name : LinkName) (side : Side) (k : ℕ) (old new : RackView) (noted : List Note)
    → name.number < 8 → IsSafe old → IsLinkOf old.net name → (given : Delivers images name side k old new noted) → rack_weight new + length given.taken ≤ rack_weight old
delivery-lightens images name side k old new noted lt safe of_net given =
    let fifo = given.gives.fifo in
    let before = gave_on name.kind name.number given.taken old given.net safe.flat fifo given.only in
    let handed : rack_weight new + length given.taken ≤ rack_weight (with_net given.net old) + messages_weight given.taken =
    all-lighten images name.kind name.number given.taken (with_net given.net old) new safe.flat noted (subst IsCoherent before safe.coherent)
    (with_net-sound name.kind name.number given.taken old given.net fifo given.only safe.sound) lt
    (asks_taken name.kind name.number given.taken old given.net fifo safe.sound.asked) given.handed in
    let pending : messages_weight (links_of old.net name).pending ≡ messages_weight given.taken + messages_weight (links_of given.net name).pending =
    ap messages_weight fifo ∙ messages-append given.taken (links_of given.net name).pending in
    let links : net_weight given.net + messages_weight given.taken ≤ net_weight old.net + 0 =
    changed_on (λ link. messages_weight link.pending) name.kind name.number old.net given.net (messages_weight given.taken) 0 given.only
    (omega (arith, pending)) (λ away. absurd (omega (arith, of_net, away))) in
    omega (arith, handed, links)

pub delivery-as-many : (images : List Image) (name : LinkName) (side : Side) (k : ℕ) (old new : RackView) (noted : List Note)
    → (given : Delivers images name side k old new noted) → AsManyLinks old.net new.net
delivery-as-many images name side k old new noted given =
    then-as-many old.net given.net new.net (given.only.blades, given.only.memories) (all-as-many images name given.taken (with_net given.net old) new noted given.handed)

-- ---- a drain

-- a drain with which a settling would go on makes the rack weigh less
pub drain-falls : (images : List Image) (h : ℕ) (thread : ThreadPlan) (blade : BladeView) (old new : RackView) (noted : List Note) → slice_get old.plan.threads h ≡ Some thread
    → slice_get old.blades thread.blade ≡ Some blade → HasToDrain h blade → Leads images (Drain h) old new noted → rack_weight new + 1 ≤ rack_weight old
drain-falls images h thread blade old new noted planned there has leads =
    let does : BladeDoes thread.blade (blade_after_drain h) old new noted = subst (λ t. HartDoes t (blade_after_drain h) old new noted) planned leads in
    let falls : rack_weight new + 1 ≤ rack_weight old + 0 = blade-acts thread.blade (blade_after_drain h) old new noted 0 1 does
    (λ other effect at given. let same : blade ≡ other = same_Some blade other (sym there ∙ at) in
    let less : blade_weight effect.blade + messages_weight effect.sent + 1 ≤ blade_weight other =
    subst (λ (b : BladeView). blade_weight effect.blade + messages_weight effect.sent + 1 ≤ blade_weight b) same
    (drain_lightens h blade effect has (ap (blade_after_drain h) same ∙ given)) in
    omega (arith, less)) in
    omega (arith, falls)

pub drain-as-many : (images : List Image) (h : ℕ) (thread : ThreadPlan) (old new : RackView) (noted : List Note) → slice_get old.plan.threads h ≡ Some thread
    → Leads images (Drain h) old new noted → AsManyLinks old.net new.net
drain-as-many images h thread old new noted planned leads =
    let d = did thread.blade (blade_after_drain h) old new noted (subst (λ t. HartDoes t (blade_after_drain h) old new noted) planned leads) in
    subst (λ (r : RackView). AsManyLinks old.net r.net) (sym d.acts.after) (as-many (on Up thread.blade d.effect.sent) old.net d.acts.net d.acts.sent)
