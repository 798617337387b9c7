-- A message that is handed over leads the machine on, whichever node hears it; and so do all that a link gives.
use Rattle.std.proofs.Common.{◌≡◌, ◌<◌, ℕ, ◌∙◌, ap, sym, subst, List, [], ◌∷◌, ◌++◌, length, slice_get, Some}
use Rattle.std.specs.List.{AllByRecursion}
use Rattle.std.proofs.lemmas.Option.{same_Some}
use Rattle.mind_base.specs.Page.{PageView}
use Rattle.mind_base.specs.declared.images.Image.{Image}
use Rattle.mind_base.specs.declared.links.LinkKind.{LinkKind}
use Rattle.mind_base.specs.declared.links.LinkKind.TheVariants.{Up, Down, To, From}
use Rattle.mind_base.specs.declared.links.LinkName.{LinkName}
use Rattle.mind_base.specs.declared.notes.Note.{Note}
use Rattle.page_image.specs.PageImage.{PageImageView}
use Rattle.protect_table.specs.Protect.{permission_at}
use Rattle.wire_msg.specs.declared.msgs.Msg.{Msg}
use Rattle.wire_msg.specs.declared.msgs.Msg.TheVariants.{Fill, Deny, Inv, Lower}
use Rattle.compute_blade.specs.Blade.{BladeView}
use Rattle.compute_blade.specs.Messages.{after_message}
use Rattle.compute_blade.proofs.Callers.{message_acts}
use Rattle.switch_core.specs.Switch.{place_in}
use Rattle.coherence.specs.Facts.{AreDowns, AreFrames, AreUps, IsCoherent, IsDown}
use Rattle.coherence.specs.World.{World}
use Rattle.coherence.proofs.Callers.{put-here, downs-cons, run_keeps}
use Rattle.tso_machine.specs.Replay.{labels}
use Rattle.tso_machine.specs.State.{Setup, State}
use Rattle.rack_core.specs.BladeMoves.{handing}
use Rattle.rack_core.specs.Events.{HandsTo, HandsAll, MemoryHears, SwitchHears}
use Rattle.rack_core.specs.Rack.{RackView}
use Rattle.rack_core.specs.Safe.{IsSound}
use Rattle.rack_core.specs.Seen.{pending_on, seen}
use Rattle.rack_core.specs.StandLog.{AreHartsPlaced}
use Rattle.rack_core.specs.StandRuns.{AreCounted, GoesWith, LeadsMachine}
use Rattle.rack_core.specs.SwitchMoves.{AsksAt, with_front}
use Rattle.rack_core.proofs.Moves.Blade.Handed.{did, blade_handed, handed_may_come}
use Rattle.rack_core.specs.Handing.{AsksOn, AskOn}
use Rattle.rack_core.proofs.Events.Handing.{handed_over, lies_up, each-handed, After}
use Rattle.rack_core.proofs.Moves.Memory.Handed.{memory_handed, asked_for}
use Rattle.rack_core.proofs.Machine.Blades.{Runs}
use Rattle.rack_core.proofs.Machine.Came.{fill-runs}
use Rattle.rack_core.proofs.Machine.Counts.{BladesStay, blades-same, blades-then, does-stay, counted-before, placed-after}
use Rattle.rack_core.proofs.Machine.Denies.{deny-runs}
use Rattle.rack_core.proofs.Machine.Elsewhere.{elsewhere-leads, memory-leads}
use Rattle.rack_core.proofs.Machine.Events.{acts-run}
use Rattle.rack_core.proofs.Machine.Pages.{blade-held, invalidate-alone, lower-alone, pages-run}
use Rattle.rack_core.proofs.Machine.Replays.{goes-led, machine-then}
use Rattle.rack_core.proofs.Machine.Silent.{receives-silent}
use Rattle.rack_core.proofs.Moves.Switch.Handed.{switch_handed_up, switch_handed_from}

-- The rack is coherent with what is still to be handed over, and the labels noted lead the machine on.
pub record HandedOn (setup : Setup) (kind : LinkKind) (number : ℕ) (rest : List Msg) (m : State) (noted : List Note) (new : RackView) : Type 0 where
  pub flat : PageView → PageImageView
  pub coherent : IsCoherent (with_front kind number rest (seen new flat))
  pub machine : LeadsMachine setup m noted new flat

-- ---- a compute blade

-- any message that comes
message-runs : (images : List Image) (setup : Setup) (old : RackView) (flat : PageView → PageImageView) (m : State) → GoesWith images setup old flat m → AreHartsPlaced old
    → (c : ℕ) (blade : BladeView) → slice_get old.blades c ≡ Some blade → (message : Msg) (rest : List Msg) → IsCoherent (handing c (message ∷ rest) (seen old flat))
    → Runs images setup old flat m c (after_message images message blade)
message-runs images setup old flat m goes placed c blade there message rest coherent = by message coherent
    (downs-cons (handing c (message ∷ rest) (seen old flat)) c message (rest ++ pending_on old.net Down c)
    (subst (AreDowns (handing c (message ∷ rest) (seen old flat)) c) (put-here c (message ∷ (rest ++ pending_on old.net Down c)) (pending_on old.net Down)) (coherent.downs c))).0
  where
    by : (m' : Msg) → IsCoherent (handing c (m' ∷ rest) (seen old flat)) → IsDown (handing c (m' ∷ rest) (seen old flat)) c m' (rest ++ pending_on old.net Down c)
        → Runs images setup old flat m c (after_message images m' blade)
    by (Fill page perm writable image) safe down = fill-runs images setup old flat m goes placed c blade there page perm writable image rest safe
    by (Deny page) safe down = deny-runs images setup old flat m goes placed c blade there page rest safe
    by (Inv number range asked) safe down = pages-run images setup old flat m goes c blade there _
        (invalidate-alone images flat number range asked blade (goes.sound c blade there).cache (blade-held old flat goes.frames c blade there))
    by (Lower number range asked) safe down = pages-run images setup old flat m goes c blade there _
        (lower-alone images flat number range asked blade (goes.sound c blade there).cache (blade-held old flat goes.frames c blade there))
    by other safe down = absurd down

down-goes : (images : List Image) (setup : Setup) (c : ℕ) (message : Msg) (rest : List Msg) (old new : RackView) (flat : PageView → PageImageView) (noted : List Note) (m : State)
    → IsCoherent (with_front Down c (message ∷ rest) (seen old flat)) → GoesWith images setup old flat m → AreHartsPlaced old → HandsTo Down images c message old new noted → AreCounted new
    → HandedOn setup Down c rest m noted new
down-goes images setup c message rest old new flat noted m coherent goes placed hands counted =
    let led = blade_handed images old new flat c message rest noted coherent goes.sound hands in
    let d = did c (λ blade. Some (after_message images message blade)) old new noted hands in
    let runs = subst (Runs images setup old flat m c) (same_Some _ _ d.does) (message-runs images setup old flat m goes placed c d.blade d.there message rest coherent) in
    record {
      flat = led.leads.flat;
      coherent = run_keeps (with_front Down c (message ∷ rest) (seen old flat)) (with_front Down c rest (seen new led.leads.flat)) led.leads.moves coherent led.leads.run;
      machine = acts-run images setup old new noted flat led.leads.flat m c d.blade d.effect d.there d.acts led.newest counted runs;
    }

-- ---- the switch and memory blades

hears-leads : (images : List Image) (setup : Setup) (name : LinkName) (message : Msg) (old new : RackView) (flat : PageView → PageImageView) (noted : List Note) (m : State)
    → GoesWith images setup old flat m → SwitchHears name message old new noted → LeadsMachine setup m noted new flat
hears-leads images setup name message old new flat noted m goes hears =
    let quiet = receives-silent name message old.switch hears.effect hears.heard in
    elsewhere-leads images setup old new noted flat m goes
    (record {
      plan = ap (λ (r : RackView). r.plan) hears.after;
      blades = ap (λ (r : RackView). r.blades) hears.after;
      perms = ap (λ (r : RackView). permission_at r.switch.protect) hears.after ∙ ap permission_at quiet.protect;
    })
    (ap labels hears.notes ∙ quiet.silent)

-- the rack is coherent with the newest images that it had
up-coherent : (number : ℕ) (message : Msg) (rest : List Msg) (old new : RackView) (flat : PageView → PageImageView) (noted : List Note) → IsCoherent (with_front Up number (message ∷ rest) (seen old flat))
    → IsSound old → number < 8 → SwitchHears (record { kind = Up; number = number }) message old new noted → IsCoherent (with_front Up number rest (seen new flat))
up-coherent number message rest old new flat noted coherent sound lt hears =
    let w = with_front Up number (message ∷ rest) (seen old flat) in
    let behind = rest ++ pending_on old.net Up number in
    let ups = subst (AreUps w number) (put-here number (message ∷ behind) (pending_on old.net Up)) (coherent.ups number) in
    let handed = switch_handed_up old new flat number message rest noted coherent sound.switch sound.asked lt (lies_up w number message behind ups) hears in
    run_keeps w (with_front Up number rest (seen new flat)) handed.moves.0 coherent handed.moves.1

from-coherent : (number : ℕ) (message : Msg) (rest : List Msg) (old new : RackView) (flat : PageView → PageImageView) (noted : List Note) → IsCoherent (with_front From number (message ∷ rest) (seen old flat))
    → IsSound old → number < 8 → SwitchHears (record { kind = From; number = number }) message old new noted → IsCoherent (with_front From number rest (seen new flat))
from-coherent number message rest old new flat noted coherent sound lt hears =
    let handed = switch_handed_from old new flat number message rest noted coherent sound.switch sound.asked lt hears in
    run_keeps (with_front From number (message ∷ rest) (seen old flat)) (with_front From number rest (seen new flat)) handed.moves.0 coherent handed.moves.1

to-coherent : (number : ℕ) (message : Msg) (rest : List Msg) (old new : RackView) (flat : PageView → PageImageView) (noted : List Note) → IsCoherent (with_front To number (message ∷ rest) (seen old flat))
    → IsSound old → AsksAt (place_in old.switch) number message → MemoryHears number message old new noted → IsCoherent (with_front To number rest (seen new flat))
to-coherent number message rest old new flat noted coherent sound asks hears =
    let fits = asked_for (place_in old.switch) number (length hears.images) message asks (sound.room number hears.images hears.before) in
    let led = memory_handed old new flat number message rest noted coherent hears fits in
    run_keeps (with_front To number (message ∷ rest) (seen old flat)) (with_front To number rest (seen new flat)) led.0 coherent led.1

-- ---- whichever it is

pub one-goes : (images : List Image) (setup : Setup) (kind : LinkKind) (number : ℕ) (message : Msg) (rest : List Msg) (old new : RackView) (flat : PageView → PageImageView) (noted : List Note) (m : State)
    → IsCoherent (with_front kind number (message ∷ rest) (seen old flat)) → IsSound old → number < 8 → AsksOn kind (place_in old.switch) number message
    → GoesWith images setup old flat m → AreHartsPlaced old → HandsTo kind images number message old new noted → AreCounted new → HandedOn setup kind number rest m noted new
one-goes images setup Down number message rest old new flat noted m coherent sound lt asks goes placed hands counted =
    down-goes images setup number message rest old new flat noted m coherent goes placed hands counted
one-goes images setup Up number message rest old new flat noted m coherent sound lt asks goes placed hands counted = record {
  flat = flat;
  coherent = up-coherent number message rest old new flat noted coherent sound lt hands;
  machine = hears-leads images setup (record { kind = Up; number = number }) message old new flat noted m goes hands;
}
one-goes images setup From number message rest old new flat noted m coherent sound lt asks goes placed hands counted = record {
  flat = flat;
  coherent = from-coherent number message rest old new flat noted coherent sound lt hands;
  machine = hears-leads images setup (record { kind = From; number = number }) message old new flat noted m goes hands;
}
one-goes images setup To number message rest old new flat noted m coherent sound lt asks goes placed hands counted = record {
  flat = flat;
  coherent = to-coherent number message rest old new flat noted coherent sound asks hands;
  machine = memory-leads images setup old new noted flat m goes number message hands;
}

pub one-stays : (images : List Image) (kind : LinkKind) (number : ℕ) (message : Msg) (rest : List Msg) (old new : RackView) (flat : PageView → PageImageView) (noted : List Note)
    → IsCoherent (with_front kind number (message ∷ rest) (seen old flat)) → IsSound old → HandsTo kind images number message old new noted → BladesStay old new
one-stays images Down number message rest old new flat noted coherent sound hands = does-stay number (λ blade. Some (after_message images message blade)) old new noted
    (λ blade there. message_acts images message blade (sound.blades number blade there).cache (handed_may_come images old flat number blade message rest coherent sound.blades there)) hands
one-stays images Up number message rest old new flat noted coherent sound hands = blades-same old new (ap (λ (r : RackView). r.plan) hands.after) (ap (λ (r : RackView). r.blades) hands.after)
one-stays images From number message rest old new flat noted coherent sound hands = blades-same old new (ap (λ (r : RackView). r.plan) hands.after) (ap (λ (r : RackView). r.blades) hands.after)
one-stays images To number message rest old new flat noted coherent sound hands = blades-same old new (ap (λ (r : RackView). r.plan) hands.after) (ap (λ (r : RackView). r.blades) hands.after)

-- ---- one after another

pub hands-stay : (images : List Image) (kind : LinkKind) (number : ℕ) (messages : List Msg) (old new : RackView) (flat : PageView → PageImageView) (noted : List Note)
    → IsCoherent (with_front kind number messages (seen old flat)) → IsSound old → number < 8 → AskOn kind (place_in old.switch) number messages
    → HandsAll images (record { kind = kind; number = number }) messages old new noted → BladesStay old new
hands-stay images kind number =
    each-handed images kind number (λ messages old new noted. BladesStay old new)
    (λ old new noted same none. blades-same old new (ap (λ (r : RackView). r.plan) same) (ap (λ (r : RackView). r.blades) same))
    (λ message rest old mid new flat first later coherent sound hands stay. blades-then old mid new (one-stays images kind number message rest old mid flat first coherent sound hands) stay)

-- frames are those of the world without the messages
pub front-frames : (kind : LinkKind) (number : ℕ) (messages : List Msg) (w : World) → AreFrames (with_front kind number messages w) → AreFrames w
front-frames Up number messages w frames = frames
front-frames Down number messages w frames = frames
front-frames To number messages w frames = frames
front-frames From number messages w frames = frames

-- What is so when the first of the messages was handed over.
pub record GoesFirst (images : List Image) (setup : Setup) (kind : LinkKind) (number : ℕ) (rest : List Msg) (old mid : RackView) (m : State) (noted : List Note) : Type 0 where
  pub on : HandedOn setup kind number rest m noted mid
  pub after : After kind number rest old mid
  pub asks : AskOn kind (place_in mid.switch) number rest
  pub goes : GoesWith images setup mid on.flat on.machine.next
  pub placed : AreHartsPlaced mid

pub goes-first : (images : List Image) (setup : Setup) (kind : LinkKind) (number : ℕ) (message : Msg) (rest : List Msg) (old new : RackView) (flat : PageView → PageImageView) (noted : List Note) (m : State)
    → IsCoherent (with_front kind number (message ∷ rest) (seen old flat)) → IsSound old → number < 8 → AskOn kind (place_in old.switch) number (message ∷ rest)
    → GoesWith images setup old flat m → AreHartsPlaced old → (hands : HandsAll images (record { kind = kind; number = number }) (message ∷ rest) old new noted) → AreCounted new
    → GoesFirst images setup kind number rest old hands.0 m hands.1
goes-first images setup kind number message rest old new flat noted m coherent sound lt asks goes placed hands counted =
    let mid = hands.0 in
    let after = handed_over images kind number message rest old mid flat hands.1 coherent sound lt asks.0 hands.3 in
    let asks_later = subst (λ f. AllByRecursion (AsksOn kind f number) rest) (sym after.places) asks.1 in
    let stay = one-stays images kind number message rest old mid flat hands.1 coherent sound hands.3 in
    let stays = hands-stay images kind number rest mid new after.flat hands.2 after.coherent after.sound lt asks_later hands.4 in
    let on = one-goes images setup kind number message rest old mid flat hands.1 m coherent sound lt asks.0 goes placed hands.3 (counted-before mid new stays counted) in
    record {
      on = on;
      after = after;
      asks = asks_later;
      goes = goes-led images setup m hands.1 old mid flat on.flat goes stay.plan (front-frames kind number rest (seen mid on.flat) on.coherent.frames) after.sound.blades on.machine;
      placed = placed-after old mid stay placed;
    }

pub all-go : (images : List Image) (setup : Setup) (kind : LinkKind) (number : ℕ) (messages : List Msg) (old new : RackView) (flat : PageView → PageImageView) (noted : List Note) (m : State)
    → IsCoherent (with_front kind number messages (seen old flat)) → IsSound old → number < 8 → AskOn kind (place_in old.switch) number messages
    → GoesWith images setup old flat m → AreHartsPlaced old → HandsAll images (record { kind = kind; number = number }) messages old new noted → AreCounted new
    → HandedOn setup kind number [] m noted new
all-go images setup kind number [] old new flat noted m coherent sound lt asks goes placed hands counted = record {
  flat = flat;
  coherent = subst (λ rack. IsCoherent (with_front kind number [] (seen rack flat))) (sym hands.0) coherent;
  machine = elsewhere-leads images setup old new noted flat m goes
      (record {
        plan = ap (λ (r : RackView). r.plan) hands.0;
        blades = ap (λ (r : RackView). r.blades) hands.0;
        perms = ap (λ (r : RackView). permission_at r.switch.protect) hands.0;
      })
      (ap labels hands.1);
}
all-go images setup kind number (message ∷ rest) old new flat noted m coherent sound lt asks goes placed hands counted =
    let mid = hands.0 in
    let first = goes-first images setup kind number message rest old new flat noted m coherent sound lt asks goes placed hands counted in
    let later = all-go images setup kind number rest mid new first.on.flat hands.2 first.on.machine.next first.on.coherent first.after.sound lt first.asks first.goes first.placed hands.4 counted in
    record {
      flat = later.flat;
      coherent = later.coherent;
      machine = subst (λ n. LeadsMachine setup m n new later.flat) (sym hands.5) (machine-then setup m hands.1 hands.2 mid new first.on.flat later.flat first.on.machine later.machine);
    }
