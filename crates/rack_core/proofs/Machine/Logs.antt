-- The rack stands for the log of what was done in it: after each event, and along every list of events.
use Rattle.std.proofs.Common.{◌≡◌, ◌<◌, ℕ, ap, sym, refl, subst, List, [], ◌∷◌, ◌++◌, append-nil, slice_get, Some}
use Rattle.std.proofs.lemmas.List.{append_assoc}
use Rattle.mind_base.specs.Page.{PageView}
use Rattle.mind_base.specs.declared.events.Event.{Event}
use Rattle.mind_base.specs.declared.events.Event.TheVariants.{Step, Drain, Evict, Deliver, Lose, Repeat, Resend, Epoch, Ask, Settle}
use Rattle.mind_base.specs.declared.images.Image.{Image}
use Rattle.mind_base.specs.declared.links.LinkName.{LinkName}
use Rattle.mind_base.specs.declared.links.Side.{Side}
use Rattle.mind_base.specs.declared.notes.Note.{Note}
use Rattle.page_image.specs.PageImage.{PageImageView}
use Rattle.compute_blade.specs.Pages.{given_up}
use Rattle.compute_blade.specs.Steps.{after_step, blade_after_drain}
use Rattle.compute_blade.proofs.Callers.{step_acts, drain_acts, gives}
use Rattle.rack_net.specs.Net.{NetView, links_of, ChangesOnly}
use Rattle.coherence.specs.Facts.{IsCoherent}
use Rattle.coherence.specs.Held.{held_by, in_force, no_holdings}
use Rattle.tso_machine.specs.Replay.{Whole, labels, replay}
use Rattle.tso_machine.specs.State.{Setup, State, start_state}
use Rattle.rack_core.specs.Accesses.{AreAccessesHeld}
use Rattle.rack_core.specs.Events.{Delivers, Leads}
use Rattle.rack_core.specs.Rack.{RackView, with_net}
use Rattle.rack_core.specs.Safe.{IsSafe, IsSound, IsOfRack, AreOfRack, Reaches}
use Rattle.rack_core.specs.Seen.{pending_on, seen}
use Rattle.rack_core.specs.StandLog.{made_from, AreHartsPlaced, StandsAt, StandsForLog}
use Rattle.rack_core.specs.StandRuns.{AreCounted, GoesWith, GoesOn}
use Rattle.rack_core.specs.Telling.{HasRoom, IsLogOf}
use Rattle.rack_core.proofs.Log.Accesses.Events.{event-holds}
use Rattle.rack_core.proofs.Log.Accesses.Logs.{accesses-then, states-led}
use Rattle.rack_core.proofs.Events.Delivering.{gave_on, none_left, asks_taken, with_net-sound, delivers}
use Rattle.rack_core.proofs.Log.Held.Rack.{event_tells, log-then}
use Rattle.rack_core.proofs.Log.Hits.Rack.{event-released, log-released}
use Rattle.rack_core.proofs.Machine.Counts.{BladesStay, blades-same, blades-then, does-stay, hart-stays, counted-before, placed-after}
use Rattle.rack_core.proofs.Machine.Elsewhere.{elsewhere-leads, net-leads}
use Rattle.rack_core.proofs.Machine.Events.{step-goes, drain-goes, goes-on}
use Rattle.rack_core.proofs.Machine.Handed.{all-go, hands-stay}
use Rattle.rack_core.proofs.Machine.Pages.{evict-goes}
use Rattle.rack_core.proofs.Machine.Replays.{goes-led, machine-then, replay-then}
use Rattle.rack_core.proofs.Events.Whole.{event_keeps}

-- ---- a delivery

deliver-stays : (images : List Image) (name : LinkName) (side : Side) (k : ℕ) (old new : RackView) (noted : List Note) (flat : PageView → PageImageView)
    → name.number < 8 → IsCoherent (seen old flat) → IsSound old → Delivers images name side k old new noted → BladesStay old new
deliver-stays images name side k old new noted flat lt coherent sound given =
    let fifo = given.gives.fifo in
    let mid = with_net given.net old in
    blades-then old mid new (blades-same old mid refl refl)
    (hands-stay images name.kind name.number given.taken mid new flat noted (subst IsCoherent (gave_on name.kind name.number given.taken old given.net flat fifo given.only) coherent)
    (with_net-sound name.kind name.number given.taken old given.net fifo given.only sound) lt (asks_taken name.kind name.number given.taken old given.net fifo sound.asked) given.handed)

deliver-goes : (images : List Image) (setup : Setup) (name : LinkName) (side : Side) (k : ℕ) (old new : RackView) (noted : List Note) (flat : PageView → PageImageView) (m : State)
    → name.number < 8 → IsCoherent (seen old flat) → IsSound old → AreHartsPlaced old → GoesWith images setup old flat m → Delivers images name side k old new noted → AreCounted new
    → GoesOn images setup m noted new
deliver-goes images setup name side k old new noted flat m lt coherent sound placed goes given counted =
    let fifo = given.gives.fifo in
    let mid = with_net given.net old in
    let led = net-leads images setup old mid [] flat m goes given.net refl refl in
    let goes_mid = goes-led images setup m [] old mid flat flat goes refl goes.frames goes.sound led in
    let all = all-go images setup name.kind name.number given.taken mid new flat noted led.next (subst IsCoherent (gave_on name.kind name.number given.taken old given.net flat fifo given.only) coherent)
    (with_net-sound name.kind name.number given.taken old given.net fifo given.only sound) lt (asks_taken name.kind name.number given.taken old given.net fifo sound.asked) goes_mid placed given.handed counted in
    record {
      flat = all.flat;
      coherent = subst IsCoherent (none_left name.kind name.number (seen new all.flat)) all.coherent;
      sound = (delivers images name side k old new noted lt (record { flat = flat; coherent = coherent; sound = sound }) given).sound.blades;
      machine = machine-then setup m [] noted mid new flat all.flat led all.machine;
    }

-- ---- any other change of a link

net-goes : (images : List Image) (setup : Setup) (name : LinkName) (old new : RackView) (net : NetView) (noted : List Note) (flat : PageView → PageImageView) (m : State)
    → IsCoherent (seen old flat) → GoesWith images setup old flat m → (links_of net name).pending ≡ (links_of old.net name).pending → ChangesOnly name old.net net → new ≡ with_net net old → noted ≡ []
    → GoesOn images setup m noted new
net-goes images setup name old new net noted flat m coherent goes same only after silent =
    let fifo : pending_on old.net name.kind name.number ≡ [] ++ pending_on net name.kind name.number = sym same in
    subst (GoesOn images setup m noted) (sym after) (record {
      flat = flat;
      coherent = subst IsCoherent (none_left name.kind name.number (seen (with_net net old) flat)) (subst IsCoherent (gave_on name.kind name.number [] old net flat fifo only) coherent);
      sound = goes.sound;
      machine = net-leads images setup old (with_net net old) noted flat m goes net refl silent;
    })

-- ---- every event

pub event-stays : (images : List Image) (event : Event) (old new : RackView) (noted : List Note) → IsOfRack event → IsSafe old → Leads images event old new noted → BladesStay old new
event-stays images (Step hart) old new noted fits safe given = hart-stays (slice_get old.plan.threads hart) (after_step images hart) old new noted (λ blade. step_acts images hart blade) given
event-stays images (Drain hart) old new noted fits safe given = hart-stays (slice_get old.plan.threads hart) (blade_after_drain hart) old new noted (λ blade. drain_acts hart blade) given
event-stays images (Evict blade page) old new noted fits safe given = does-stay blade (λ b. Some (given_up page b)) old new noted (λ b there. gives page b) given
event-stays images (Deliver link side k) old new noted fits safe given = deliver-stays images link side k old new noted safe.flat fits safe.coherent safe.sound given
event-stays images (Lose link side k) old new noted fits safe given = blades-same old new (ap (λ (r : RackView). r.plan) given.after) (ap (λ (r : RackView). r.blades) given.after)
event-stays images (Repeat link side k) old new noted fits safe given = blades-same old new (ap (λ (r : RackView). r.plan) given.after) (ap (λ (r : RackView). r.blades) given.after)
event-stays images (Resend link) old new noted fits safe given = blades-same old new (ap (λ (r : RackView). r.plan) given.after) (ap (λ (r : RackView). r.blades) given.after)
event-stays images Epoch old new noted fits safe given = blades-same old new (ap (λ (r : RackView). r.plan) given.0) (ap (λ (r : RackView). r.blades) given.0)
event-stays images (Ask command) old new noted fits safe given = absurd given
event-stays images Settle old new noted fits safe given = absurd given

event-goes : (images : List Image) (setup : Setup) (event : Event) (old new : RackView) (noted : List Note) (flat : PageView → PageImageView) (m : State)
    → IsOfRack event → IsCoherent (seen old flat) → IsSound old → AreHartsPlaced old → GoesWith images setup old flat m → Leads images event old new noted → AreCounted new → GoesOn images setup m noted new
event-goes images setup (Step hart) old new noted flat m fits coherent sound placed goes given counted = step-goes images setup hart old new noted flat m coherent goes given counted
event-goes images setup (Drain hart) old new noted flat m fits coherent sound placed goes given counted = drain-goes images setup hart old new noted flat m coherent goes given counted
event-goes images setup (Evict blade page) old new noted flat m fits coherent sound placed goes given counted = evict-goes images setup blade page old new noted flat m coherent goes given counted
event-goes images setup (Deliver link side k) old new noted flat m fits coherent sound placed goes given counted =
    deliver-goes images setup link side k old new noted flat m fits coherent sound placed goes given counted
event-goes images setup (Lose link side k) old new noted flat m fits coherent sound placed goes given counted =
    net-goes images setup link old new given.net noted flat m coherent goes given.changes.fifo given.only given.after given.notes
event-goes images setup (Repeat link side k) old new noted flat m fits coherent sound placed goes given counted =
    net-goes images setup link old new given.net noted flat m coherent goes given.changes.fifo given.only given.after given.notes
event-goes images setup (Resend link) old new noted flat m fits coherent sound placed goes given counted =
    net-goes images setup link old new given.net noted flat m coherent goes given.changes.fifo given.only given.after given.notes
event-goes images setup Epoch old new noted flat m fits coherent sound placed goes given counted = subst (GoesOn images setup m noted) (sym given.0) (record {
  flat = flat;
  coherent = coherent;
  sound = goes.sound;
  machine = elsewhere-leads images setup old old noted flat m goes (record { plan = refl; blades = refl; perms = refl }) (ap labels given.1);
})
event-goes images setup (Ask command) old new noted flat m fits coherent sound placed goes given counted = absurd given
event-goes images setup Settle old new noted flat m fits coherent sound placed goes given counted = absurd given

-- ---- logs

safe-at : (images : List Image) (setup : Setup) (rack : RackView) (m : State) → StandsAt images setup rack m → IsSafe rack
safe-at images setup rack m at = record { flat = at.flat; coherent = at.coherent; sound = at.sound }

-- An event keeps that the rack stands for its log.
pub event-logs : (images : List Image) (event : Event) (old new : RackView) (log noted : List Note) → IsOfRack event → StandsForLog images old log → Leads images event old new noted → AreCounted new
    → StandsForLog images new (log ++ noted)
event-logs images event old new log noted fits stands given counted =
    let setup = made_from images old.plan in
    let at = stands.at in
    let safe = safe-at images setup old stands.state at in
    let on = event-goes images setup event old new noted at.flat stands.state fits at.coherent at.sound at.placed at.goes given counted in
    let stay = event-stays images event old new noted fits safe given in
    let tells = event_tells images old.plan event old new noted fits safe stands.room given in
    let next = on.machine.next in
    let its : StandsAt images setup new next = record {
      flat = on.flat;
      coherent = on.coherent;
      sound = (event_keeps images event old new noted fits safe given).sound;
      placed = placed-after old new stay at.placed;
      goes = goes-on images setup stands.state noted new (sym stay.plan) refl on;
    } in
    let run = replay-then setup (start_state setup) stands.state next log noted stands.run on.machine.run in
    record {
      state = next;
      run = subst (λ p. replay (made_from images p) (start_state (made_from images p)) (labels (log ++ noted)) ≡ Whole next) (sym stay.plan) run;
      at = subst (λ p. StandsAt images (made_from images p) new next) (sym stay.plan) its;
      room = subst (λ p. HasRoom p new) (sym stay.plan) tells.room;
      told = subst (λ p. IsLogOf p new (log ++ noted)) (sym stay.plan) (log-then old.plan old new log noted stands.told tells);
      accesses = subst (λ p. AreAccessesHeld (made_from images p) (start_state (made_from images p)) no_holdings (log ++ noted)) (sym stay.plan)
          (accesses-then setup (start_state setup) no_holdings log noted stands.accesses
          (subst (λ s. AreAccessesHeld setup s (held_by log) noted) (sym (states-led setup (start_state setup) stands.state log stands.run))
          (event-holds images setup old.plan event old new noted at.flat stands.state fits at.coherent at.sound at.placed at.goes stands.room given counted
          (held_by log) (in_force log) (stands.told.matches at.flat))));
      released = log-released old new log noted stands.released (event-released images event old new noted fits safe given);
    }

pub runs-stay : (images : List Image) (events : List Event) (first last : RackView) (noted : List Note) → AreOfRack events → IsSafe first → Reaches images events first last noted → BladesStay first last
runs-stay images [] first last noted fits safe reaches = blades-same first last (ap (λ (r : RackView). r.plan) reaches.0) (ap (λ (r : RackView). r.blades) reaches.0)
runs-stay images (event ∷ events) first last noted fits safe reaches =
    blades-then first reaches.0 last (event-stays images event first reaches.0 reaches.1 fits.0 safe reaches.3)
    (runs-stay images events reaches.0 last reaches.2 fits.1 (event_keeps images event first reaches.0 reaches.1 fits.0 safe reaches.3) reaches.4)

-- So does every list of events.
pub runs-log : (images : List Image) (events : List Event) (first last : RackView) (log noted : List Note) → AreOfRack events → StandsForLog images first log → Reaches images events first last noted → AreCounted last
    → StandsForLog images last (log ++ noted)
runs-log images [] first last log noted fits stands reaches counted =
    subst (λ n. StandsForLog images last (log ++ n)) (sym reaches.1) (subst (StandsForLog images last) (sym (append-nil log)) (subst (λ r. StandsForLog images r log) (sym reaches.0) stands))
runs-log images (event ∷ events) first last log noted fits stands reaches counted =
    let mid = reaches.0 in
    let safe = safe-at images (made_from images first.plan) first stands.state stands.at in
    let stay = runs-stay images events mid last reaches.2 fits.1 (event_keeps images event first mid reaches.1 fits.0 safe reaches.3) reaches.4 in
    let one = event-logs images event first mid log reaches.1 fits.0 stands reaches.3 (counted-before mid last stay counted) in
    let all = runs-log images events mid last (log ++ reaches.1) reaches.2 fits.1 one reaches.4 counted in
    subst (λ n. StandsForLog images last (log ++ n)) (sym reaches.5) (subst (StandsForLog images last) (append_assoc log reaches.1 reaches.2) all)
