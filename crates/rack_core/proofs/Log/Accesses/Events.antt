-- Whatever an event does, the accesses that it notes are performed by blades that hold their pages.
use Rattle.std.proofs.Common.{◌≡◌, ℕ, ◌<◌, ap, sym, refl, subst, ◌∙◌, List, [], ◌∷◌, fold, slice_get, Option, Some, None, option_map}
use Rattle.std.specs.Prelude.{option_and_then}
use Rattle.std.proofs.lemmas.Option.{none-some, same_Some}
use Rattle.mind_base.specs.Page.{PageView}
use Rattle.mind_base.specs.declared.events.Event.{Event}
use Rattle.mind_base.specs.declared.events.Event.TheVariants.{Step, Drain, Evict, Deliver, Lose, Repeat, Resend, Epoch, Ask, Settle}
use Rattle.mind_base.specs.declared.images.Image.{Image}
use Rattle.mind_base.specs.declared.links.LinkKind.{LinkKind}
use Rattle.mind_base.specs.declared.links.LinkKind.TheVariants.{Up, Down, To, From}
use Rattle.mind_base.specs.declared.links.LinkName.{LinkName}
use Rattle.mind_base.specs.declared.links.Side.{Side}
use Rattle.mind_base.specs.declared.notes.Note.{Note}
use Rattle.mind_base.specs.declared.plans.RackPlan.{RackPlan}
use Rattle.mind_base.specs.declared.plans.ThreadPlan.{ThreadPlan}
use Rattle.page_cache.specs.PageCache.{frame_of}
use Rattle.page_image.specs.PageImage.{PageImageView}
use Rattle.wire_msg.specs.declared.msgs.Msg.{Msg}
use Rattle.compute_blade.specs.Blade.{HartView, BladeView, BladeEffect, hart_of}
use Rattle.compute_blade.specs.Messages.{after_message}
use Rattle.compute_blade.specs.Pages.{given_up}
use Rattle.compute_blade.specs.Steps.{blade_after_drain, after_step, drain_of, step_at}
use Rattle.switch_core.specs.Switch.{place_in}
use Rattle.coherence.specs.Facts.{IsCoherent}
use Rattle.coherence.specs.Held.{Holdings, Entries as InForce, held_after, entries_after}
use Rattle.coherence.specs.Lawful.{Matches}
use Rattle.coherence.proofs.Callers.{writable_of}
use Rattle.tso_machine.specs.Replay.{labels}
use Rattle.tso_machine.specs.State.{Setup, State}
use Rattle.rack_core.specs.Accesses.{AreAccessesHeld}
use Rattle.rack_core.specs.Events.{Delivers, HandsAll, HandsTo, HartDoes, Leads}
use Rattle.rack_core.specs.Handing.{AskOn}
use Rattle.rack_core.specs.Rack.{RackView, with_net}
use Rattle.rack_core.specs.Safe.{IsOfRack, IsSound}
use Rattle.rack_core.specs.Seen.{seen}
use Rattle.rack_core.specs.StandLog.{AreHartsPlaced}
use Rattle.rack_core.specs.StandRuns.{AreCounted, GoesWith}
use Rattle.rack_core.specs.SwitchMoves.{with_front}
use Rattle.rack_core.specs.Telling.{HasRoom}
use Rattle.rack_core.proofs.Log.Accesses.Blades.{Holds, step-hold, drain-hold}
use Rattle.rack_core.proofs.Log.Accesses.Logs.{accesses-then, silent-held, states-led}
use Rattle.rack_core.proofs.Log.Accesses.Messages.{message-hold}
use Rattle.rack_core.proofs.Moves.Blade.Handed.{did}
use Rattle.rack_core.proofs.Moves.Blade.Steps.{for_hart-some}
use Rattle.rack_core.proofs.Log.Held.BladeNotes.{HoldsAs}
use Rattle.rack_core.proofs.Events.Delivering.{gave_on, asks_taken, with_net-sound}
use Rattle.rack_core.proofs.Log.Held.Rack.{hand_tells}
use Rattle.rack_core.proofs.Machine.Elsewhere.{net-leads}
use Rattle.rack_core.proofs.Machine.Events.{hart-at}
use Rattle.rack_core.proofs.Machine.Handed.{goes-first}
use Rattle.rack_core.proofs.Machine.Pages.{blade-held, given_up-alone}
use Rattle.rack_core.proofs.Machine.Replays.{goes-led}
use Rattle.rack_core.proofs.Machine.Silent.{receives-silent}

-- ---- a blade of the rack

-- what matches the rack is what its blades hold
matched : (held : Holdings) (entries : InForce) (old : RackView) (flat : PageView → PageImageView) → Matches held entries (seen old flat) → (c : ℕ) (blade : BladeView) → slice_get old.blades c ≡ Some blade
    → HoldsAs c blade held
matched held entries old flat matches c blade there page = matches.frames c page ∙ ap (λ o. writable_of (option_and_then (λ b. frame_of page b.cache.entries) o)) there

-- a step of hart h, and a drain
step-holds : (images : List Image) (setup : Setup) (old : RackView) (flat : PageView → PageImageView) (m : State) → GoesWith images setup old flat m → (h : ℕ) (thread : ThreadPlan)
    → slice_get old.plan.threads h ≡ Some thread → (blade : BladeView) → slice_get old.blades thread.blade ≡ Some blade → (e : BladeEffect) → after_step images h blade ≡ Some e
    → Holds setup m thread.blade blade e.noted
step-holds images setup old flat m goes h thread planned blade there e does =
    let o = for_hart-some blade h (λ plan hart. option_map (λ image. step_at hart.end h plan image blade hart) (slice_get images plan.image)) e does in
    let its = hart-at images setup old flat m goes h thread planned blade there o.plan o.hart o.thread o.own in
    by o.hart o.own (slice_get images thread.image) refl (subst (λ (p : ThreadPlan). option_map (λ image. step_at o.hart.end h p image blade o.hart) (slice_get images p.image) ≡ Some e) its.0 o.does)
  where
    by : (hart : HartView) → hart_of blade h ≡ Some hart → (code : Option Image) → slice_get images thread.image ≡ code
        → option_map (λ image. step_at hart.end h thread image blade hart) code ≡ Some e → Holds setup m thread.blade blade e.noted
    by hart own None is d = absurd (none-some e d)
    by hart own (Some image) is d = subst (λ (x : BladeEffect). Holds setup m thread.blade blade x.noted) (same_Some _ _ d)
        (step-hold images setup old flat m goes h hart (record { plan = thread; blade = blade; thread = planned; there = there; own = own }) image is hart.end refl)

drain-holds : (images : List Image) (setup : Setup) (old : RackView) (flat : PageView → PageImageView) (m : State) → GoesWith images setup old flat m → (h : ℕ) (thread : ThreadPlan)
    → slice_get old.plan.threads h ≡ Some thread → (blade : BladeView) → slice_get old.blades thread.blade ≡ Some blade → (e : BladeEffect) → blade_after_drain h blade ≡ Some e
    → Holds setup m thread.blade blade e.noted
drain-holds images setup old flat m goes h thread planned blade there e does =
    let o = for_hart-some blade h (λ plan hart. Some (drain_of h plan blade hart)) e does in
    let its = hart-at images setup old flat m goes h thread planned blade there o.plan o.hart o.thread o.own in
    subst (λ (x : BladeEffect). Holds setup m thread.blade blade x.noted) (same_Some _ _ (subst (λ (p : ThreadPlan). Some (drain_of h p blade o.hart) ≡ Some e) its.0 o.does))
    (drain-hold images setup old flat m goes h o.hart (record { plan = thread; blade = blade; thread = planned; there = there; own = o.own }))

-- what a hart's blade does, by the plan
hart-holds : (setup : Setup) (m : State) (h : ℕ) (act : BladeView → Option BladeEffect) (old new : RackView) (noted : List Note)
    → ((thread : ThreadPlan) → slice_get old.plan.threads h ≡ Some thread → (blade : BladeView) → slice_get old.blades thread.blade ≡ Some blade → (e : BladeEffect) → act blade ≡ Some e
    → Holds setup m thread.blade blade e.noted)
    → HartDoes (slice_get old.plan.threads h) act old new noted → (held : Holdings) → ((c : ℕ) (blade : BladeView) → slice_get old.blades c ≡ Some blade → HoldsAs c blade held)
    → AreAccessesHeld setup m held noted
hart-holds setup m h act old new noted each given held matches = by (slice_get old.plan.threads h) refl given where
  by : (thread : Option ThreadPlan) → slice_get old.plan.threads h ≡ thread → HartDoes thread act old new noted → AreAccessesHeld setup m held noted
  by None planned does = absurd does
  by (Some thread) planned does =
      let d = did thread.blade act old new noted does in
      subst (AreAccessesHeld setup m held) (sym d.acts.notes) (each thread planned d.blade d.there d.effect d.does held (matches thread.blade d.blade d.there))

-- ---- messages

one-holds : (images : List Image) (setup : Setup) (plan : RackPlan) (kind : LinkKind) (number : ℕ) (message : Msg) (rest : List Msg) (old new : RackView) (flat : PageView → PageImageView) (noted : List Note) (m : State)
    → IsCoherent (with_front kind number (message ∷ rest) (seen old flat)) → GoesWith images setup old flat m → AreHartsPlaced old → HasRoom plan old → HandsTo kind images number message old new noted
    → (held : Holdings) → ((c : ℕ) (blade : BladeView) → slice_get old.blades c ≡ Some blade → HoldsAs c blade held) → AreAccessesHeld setup m held noted
one-holds images setup plan Down number message rest old new flat noted m coherent goes placed room hands held matches =
    let d = did number (λ blade. Some (after_message images message blade)) old new noted hands in
    subst (AreAccessesHeld setup m held) (sym d.acts.notes) (subst (λ (e : BladeEffect). AreAccessesHeld setup m held e.noted) (same_Some _ _ d.does)
    (message-hold images setup old flat m goes placed number d.blade d.there (room.frames number d.blade d.there).0 message rest coherent held (matches number d.blade d.there)))
one-holds images setup plan Up number message rest old new flat noted m coherent goes placed room hands held matches =
    silent-held setup m held noted (ap labels hands.notes ∙ (receives-silent (record { kind = Up; number = number }) message old.switch hands.effect hands.heard).silent)
one-holds images setup plan From number message rest old new flat noted m coherent goes placed room hands held matches =
    silent-held setup m held noted (ap labels hands.notes ∙ (receives-silent (record { kind = From; number = number }) message old.switch hands.effect hands.heard).silent)
one-holds images setup plan To number message rest old new flat noted m coherent goes placed room hands held matches = silent-held setup m held noted (ap labels hands.notes)

all-hold : (images : List Image) (setup : Setup) (plan : RackPlan) (kind : LinkKind) (number : ℕ) (messages : List Msg) (old new : RackView) (flat : PageView → PageImageView) (noted : List Note) (m : State)
    → IsCoherent (with_front kind number messages (seen old flat)) → IsSound old → number < 8 → AskOn kind (place_in old.switch) number messages
    → GoesWith images setup old flat m → AreHartsPlaced old → HasRoom plan old → HandsAll images (record { kind = kind; number = number }) messages old new noted → AreCounted new
    → (held : Holdings) (entries : InForce) → Matches held entries (seen old flat) → AreAccessesHeld setup m held noted
all-hold images setup plan kind number [] old new flat noted m coherent sound lt asks goes placed room hands counted held entries matches = silent-held setup m held noted (ap labels hands.1)
all-hold images setup plan kind number (message ∷ rest) old new flat noted m coherent sound lt asks goes placed room hands counted held entries matches =
    let mid = hands.0 in
    let first = goes-first images setup kind number message rest old new flat noted m coherent sound lt asks goes placed hands counted in
    let tells = hand_tells images plan kind number lt message rest old mid flat hands.1 coherent sound room hands.3 in
    let one = one-holds images setup plan kind number message rest old mid flat hands.1 m coherent goes placed room hands.3 held (matched held entries old flat matches) in
    let later = all-hold images setup plan kind number rest mid new first.on.flat hands.2 first.on.machine.next first.on.coherent first.after.sound lt first.asks first.goes first.placed tells.room hands.4 counted
    (fold held_after held hands.1) (fold entries_after entries hands.1) (tells.told flat first.on.flat held entries matches).1 in
    subst (AreAccessesHeld setup m held) (sym hands.5) (accesses-then setup m held hands.1 hands.2 one
    (subst (λ s. AreAccessesHeld setup s (fold held_after held hands.1) hands.2) (sym (states-led setup m first.on.machine.next hands.1 first.on.machine.run)) later))

deliver-holds : (images : List Image) (setup : Setup) (plan : RackPlan) (name : LinkName) (side : Side) (k : ℕ) (old new : RackView) (flat : PageView → PageImageView) (noted : List Note) (m : State)
    → name.number < 8 → IsCoherent (seen old flat) → IsSound old → GoesWith images setup old flat m → AreHartsPlaced old → HasRoom plan old → Delivers images name side k old new noted → AreCounted new
    → (held : Holdings) (entries : InForce) → Matches held entries (seen old flat) → AreAccessesHeld setup m held noted
deliver-holds images setup plan name side k old new flat noted m lt coherent sound goes placed room given counted held entries matches =
    let fifo = given.gives.fifo in
    let mid = with_net given.net old in
    let led = net-leads images setup old mid [] flat m goes given.net refl refl in
    let goes_mid = goes-led images setup m [] old mid flat flat goes refl goes.frames goes.sound led in
    subst (λ s. AreAccessesHeld setup s held noted) (sym (states-led setup m led.next [] led.run))
    (all-hold images setup plan name.kind name.number given.taken mid new flat noted led.next (subst IsCoherent (gave_on name.kind name.number given.taken old given.net flat fifo given.only) coherent)
    (with_net-sound name.kind name.number given.taken old given.net fifo given.only sound) lt (asks_taken name.kind name.number given.taken old given.net fifo sound.asked) goes_mid placed
    (record { slots = room.slots; frames = room.frames }) given.handed counted held entries (record { frames = matches.frames; states = matches.states }))

-- ---- every event

pub event-holds : (images : List Image) (setup : Setup) (plan : RackPlan) (event : Event) (old new : RackView) (noted : List Note) (flat : PageView → PageImageView) (m : State)
    → IsOfRack event → IsCoherent (seen old flat) → IsSound old → AreHartsPlaced old → GoesWith images setup old flat m → HasRoom plan old → Leads images event old new noted → AreCounted new
    → (held : Holdings) (entries : InForce) → Matches held entries (seen old flat) → AreAccessesHeld setup m held noted
event-holds images setup plan (Step hart) old new noted flat m fits coherent sound placed goes room given counted held entries matches =
    hart-holds setup m hart (after_step images hart) old new noted (step-holds images setup old flat m goes hart) given held (matched held entries old flat matches)
event-holds images setup plan (Drain hart) old new noted flat m fits coherent sound placed goes room given counted held entries matches =
    hart-holds setup m hart (blade_after_drain hart) old new noted (drain-holds images setup old flat m goes hart) given held (matched held entries old flat matches)
event-holds images setup plan (Evict c page) old new noted flat m fits coherent sound placed goes room given counted held entries matches =
    let d = did c (λ blade. Some (given_up page blade)) old new noted given in
    silent-held setup m held noted (ap labels d.acts.notes ∙ sym (ap (λ (e : BladeEffect). labels e.noted) (same_Some _ _ d.does))
    ∙ (given_up-alone flat page d.blade (goes.sound c d.blade d.there).cache (blade-held old flat goes.frames c d.blade d.there)).silent)
event-holds images setup plan (Deliver link side k) old new noted flat m fits coherent sound placed goes room given counted held entries matches =
    deliver-holds images setup plan link side k old new flat noted m fits coherent sound goes placed room given counted held entries matches
event-holds images setup plan (Lose link side k) old new noted flat m fits coherent sound placed goes room given counted held entries matches = silent-held setup m held noted (ap labels given.notes)
event-holds images setup plan (Repeat link side k) old new noted flat m fits coherent sound placed goes room given counted held entries matches = silent-held setup m held noted (ap labels given.notes)
event-holds images setup plan (Resend link) old new noted flat m fits coherent sound placed goes room given counted held entries matches = silent-held setup m held noted (ap labels given.notes)
event-holds images setup plan Epoch old new noted flat m fits coherent sound placed goes room given counted held entries matches = silent-held setup m held noted (ap labels given.1)
event-holds images setup plan (Ask command) old new noted flat m fits coherent sound placed goes room given counted held entries matches = absurd given
event-holds images setup plan Settle old new noted flat m fits coherent sound placed goes room given counted held entries matches = absurd given
