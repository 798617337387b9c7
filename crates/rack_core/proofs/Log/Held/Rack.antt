-- Each event's notes tell of it, and so do those of every list of events from a rack that starts.
use Rattle.std.proofs.Common.{◌≡◌, refl, sym, ◌∙◌, ap, subst, ℕ, ◌<◌, ◌≤◌, zero, suc, List, [], ◌∷◌, ◌++◌, fold, length, slice_get, arith, Some}
use Rattle.std.specs.Prelude.{slice_index, unwrap_or}
use Rattle.std.proofs.lemmas.List.Sums.{fold-append}
use Rattle.mind_base.specs.Fit.{IsFit}
use Rattle.mind_base.specs.Page.{PageView}
use Rattle.mind_base.specs.declared.events.Event.{Event}
use Rattle.mind_base.specs.declared.events.Event.TheVariants.{Step, Drain, Evict, Deliver, Lose, Repeat, Resend, Epoch, Ask, Settle}
use Rattle.mind_base.specs.declared.images.Image.{Image}
use Rattle.mind_base.specs.declared.links.LinkKind.{LinkKind}
use Rattle.mind_base.specs.declared.links.LinkKind.TheVariants.{Up, Down, To, From}
use Rattle.mind_base.specs.declared.notes.Note.{Note}
use Rattle.mind_base.specs.declared.notes.Note.TheVariants as note
use Rattle.mind_base.specs.declared.plans.RackPlan.{RackPlan}
use Rattle.page_image.specs.PageImage.{PageImageView, zero_image}
use Rattle.compute_blade.specs.Blade.{BladeView}
use Rattle.compute_blade.specs.Messages.{after_message}
use Rattle.compute_blade.specs.Pages.{given_up}
use Rattle.compute_blade.specs.Steps.{after_step, blade_after_drain}
use Rattle.region_directory.specs.Directory.{DirectoryView}
use Rattle.coherence.specs.Facts.{IsCoherent}
use Rattle.coherence.specs.Held.{held_after, entries_after, held_by, in_force, no_holdings, no_entries}
use Rattle.coherence.specs.Lawful.{IsWithin, Matches, AreLawful, IsLawful, MayBeNoted}
use Rattle.coherence.proofs.Callers.{lawful_at_point, lawful_in, lawful_when_coherent, lawful_append, tells-between, alike-same}
use Rattle.rack_core.specs.BladeMoves.{AreBladesSound}
use Rattle.rack_core.specs.Events.{Leads}
use Rattle.rack_core.specs.Rack.{RackView}
use Rattle.rack_core.specs.Safe.{IsSafe, IsOfRack, AreOfRack, Reaches}
use Rattle.rack_core.specs.Seen.{seen}
use Rattle.rack_core.specs.Start.{IsStart}
use Rattle.rack_core.specs.SwitchMoves.{HasSlots}
use Rattle.rack_core.specs.Telling.{HasRoom, IsLogOf, NotesTell}
use Rattle.rack_core.proofs.Log.Held.Blades.{IsToldOf, IsLawfulAt, step_tells, drain_tells, evict_tells, handed_tells}
use Rattle.rack_core.proofs.Events.Handing.{blade_leaves}
use Rattle.rack_core.proofs.Events.Starting.{blade_is, first_seen, starts}
use Rattle.rack_core.proofs.Log.Held.SwitchNotes.{within_slots}
use Rattle.rack_core.proofs.Log.Held.Switch.{HandTells, deliver_tells, hand_tells_up, hand_tells_from, hand_tells_to, holds_within, nothing_told, told-then}
use Rattle.rack_core.proofs.Events.Whole.{event_keeps, hart_leaves}

pub room-within : (plan : RackPlan) (rack : RackView) (flat : PageView → PageImageView) → AreBladesSound rack → HasRoom plan rack → IsWithin plan (seen rack flat)
room-within plan rack flat sound room = within_slots plan (seen rack flat) rack.switch refl (holds_within plan rack flat sound room) room.slots

-- ---- a compute blade acts

acted-told : (plan : RackPlan) (old new : RackView) (noted : List Note) (flat : PageView → PageImageView) → HasRoom plan old → new.switch ≡ old.switch
    → ((newer : PageView → PageImageView) → IsToldOf plan old new noted flat newer) → NotesTell plan old new noted
acted-told plan old new noted flat room switch told = record {
  room = record { slots = subst (HasSlots plan) (sym switch) room.slots; frames = (told flat).frames };
  told = λ before after. tells-between plan (seen old before) (seen old flat) (seen new after) (seen new after) noted
      (alike-same (seen old before) (seen old flat) refl refl) (alike-same (seen new after) (seen new after) refl refl) (told after).tells;
}

hand_tells_down : (images : List Image) (plan : RackPlan) (number : ℕ) → HandTells images plan Down number
hand_tells_down images plan number message rest old new flat noted safe sound room hands =
    acted-told plan old new noted flat room (blade_leaves number (λ blade. Some (after_message images message blade)) old new noted hands).switch
    (λ newer. handed_tells images number message rest plan old new noted flat newer safe (room-within plan old flat sound.blades room) sound.blades room.frames hands)

pub hand_tells : (images : List Image) (plan : RackPlan) (kind : LinkKind) (number : ℕ) → number < 8 → HandTells images plan kind number
hand_tells images plan Up number lt = hand_tells_up images plan number lt
hand_tells images plan Down number lt = hand_tells_down images plan number
hand_tells images plan To number lt = hand_tells_to images plan number
hand_tells images plan From number lt = hand_tells_from images plan number lt

-- ---- events

lawful_then : (plan : RackPlan) (old : RackView) (safe : IsSafe old) → HasRoom plan old → IsLawfulAt plan (seen old safe.flat)
lawful_then plan old safe room = lawful_in plan (seen old safe.flat) safe.coherent (room-within plan old safe.flat safe.sound.blades room)

pub event_tells : (images : List Image) (plan : RackPlan) (event : Event) (old new : RackView) (noted : List Note) → IsOfRack event → IsSafe old → HasRoom plan old → Leads images event old new noted
    → NotesTell plan old new noted
event_tells images plan (Step hart) old new noted fits safe room given =
    acted-told plan old new noted safe.flat room (hart_leaves (slice_get old.plan.threads hart) (after_step images hart) old new noted given).switch
    (λ newer. step_tells images hart plan old new noted safe.flat newer (lawful_then plan old safe room) safe.sound.blades room.frames given)
event_tells images plan (Drain hart) old new noted fits safe room given =
    acted-told plan old new noted safe.flat room (hart_leaves (slice_get old.plan.threads hart) (blade_after_drain hart) old new noted given).switch
    (λ newer. drain_tells images hart plan old new noted safe.flat newer (lawful_then plan old safe room) safe.sound.blades room.frames given)
event_tells images plan (Evict blade page) old new noted fits safe room given =
    acted-told plan old new noted safe.flat room (blade_leaves blade (λ b. Some (given_up page b)) old new noted given).switch
    (λ newer. evict_tells images blade page plan old new noted safe.flat newer (lawful_then plan old safe room) safe.sound.blades room.frames given)
event_tells images plan (Deliver link side k) old new noted fits safe room given =
    deliver_tells images plan link side k (hand_tells images plan link.kind link.number fits) old new safe.flat noted fits safe.coherent safe.sound room given
event_tells images plan (Lose link side k) old new noted fits safe room given =
    nothing_told plan old new noted (ap (λ (r : RackView). r.blades) given.after) (ap (λ (r : RackView). r.switch) given.after) given.notes room
event_tells images plan (Repeat link side k) old new noted fits safe room given =
    nothing_told plan old new noted (ap (λ (r : RackView). r.blades) given.after) (ap (λ (r : RackView). r.switch) given.after) given.notes room
event_tells images plan (Resend link) old new noted fits safe room given =
    nothing_told plan old new noted (ap (λ (r : RackView). r.blades) given.after) (ap (λ (r : RackView). r.switch) given.after) given.notes room
event_tells images plan Epoch old new noted fits safe room given =
    nothing_told plan old new noted (ap (λ (r : RackView). r.blades) given.0) (ap (λ (r : RackView). r.switch) given.0) given.1 room
event_tells images plan (Ask command) old new noted fits safe room given = absurd given
event_tells images plan Settle old new noted fits safe room given = absurd given

pub run_tells : (images : List Image) (plan : RackPlan) (events : List Event) (first last : RackView) (noted : List Note) → AreOfRack events → IsSafe first → HasRoom plan first
    → Reaches images events first last noted → NotesTell plan first last noted
run_tells images plan [] first last noted fits safe room reaches =
    nothing_told plan first last noted (ap (λ (r : RackView). r.blades) reaches.0) (ap (λ (r : RackView). r.switch) reaches.0) reaches.1 room
run_tells images plan (event ∷ events) first last noted fits safe room reaches =
    let one = event_tells images plan event first reaches.0 reaches.1 fits.0 safe room reaches.3 in
    let all = run_tells images plan events reaches.0 last reaches.2 fits.1 (event_keeps images event first reaches.0 reaches.1 fits.0 safe reaches.3) one.room reaches.4 in
    subst (NotesTell plan first last) (sym reaches.5) (told-then plan first reaches.0 last reaches.1 reaches.2 one all)

-- ---- at the start

frames-at : (frames : List ℕ) (c : ℕ) → c < length frames → slice_index frames c ≡ unwrap_or (slice_get frames c) 0
frames-at [] c lt = absurd (omega (arith, lt))
frames-at (n ∷ frames) zero lt = refl
frames-at (n ∷ frames) (suc c) lt = frames-at frames c (omega (arith, lt))

pub starts_room : (plan : RackPlan) (rack : RackView) → IsStart plan rack → HasRoom plan rack
starts_room plan rack start = record {
  slots = record {
    slots = ap (λ (d : DirectoryView). d.slots) start.switch.directory;
    room = subst (λ (d : DirectoryView). length d.entries ≤ plan.slots) (sym start.switch.directory) (omega arith);
  };
  frames = λ c blade at.
      let is = blade_is plan c blade (ap (λ (blades : List BladeView). slice_get blades c) (sym start.blades) ∙ at) in
      (ap (λ (b : BladeView). b.number) is.1, ap (λ (b : BladeView). b.cache.frames) is.1 ∙ frames-at plan.frames c is.0);
}

-- nobody holds a page, and no entry is in force
pub starts_match : (plan : RackPlan) (rack : RackView) (flat : PageView → PageImageView) → IsStart plan rack → Matches no_holdings no_entries (seen rack flat)
starts_match plan rack flat start =
    let first : Matches no_holdings no_entries (seen rack (λ page. zero_image)) = subst (Matches no_holdings no_entries) (sym (first_seen plan rack start)) (record { frames = λ blade page. refl; states = λ range. refl }) in
    record { frames = first.frames; states = first.states }

-- ---- logs

pub log-then : (plan : RackPlan) (old new : RackView) (log noted : List Note) → IsLogOf plan old log → NotesTell plan old new noted → IsLogOf plan new (log ++ noted)
log-then plan old new log noted is tells =
    let flat : PageView → PageImageView = λ page. zero_image in
    record {
      lawful = lawful_append plan no_holdings no_entries log noted is.lawful (tells.told flat flat (held_by log) (in_force log) (is.matches flat)).0;
      matches = λ after. subst (λ h. Matches h (in_force (log ++ noted)) (seen new after)) (sym (fold-append held_after no_holdings log noted))
          (subst (λ e. Matches (fold held_after (held_by log) noted) e (seen new after)) (sym (fold-append entries_after no_entries log noted))
          (tells.told flat after (held_by log) (in_force log) (is.matches flat)).1);
    }

pub starts_log : (plan : RackPlan) (rack : RackView) → IsStart plan rack → IsLogOf plan rack []
starts_log plan rack start = record { lawful = tt; matches = λ flat. starts_match plan rack flat start }

-- the number of an event may be noted at any time
pub log-event : (plan : RackPlan) (rack : RackView) (flat : PageView → PageImageView) (log : List Note) (index : ℕ) → IsCoherent (seen rack flat) → AreBladesSound rack → HasRoom plan rack → IsLogOf plan rack log
    → IsLogOf plan rack (log ++ note.Event index ∷ [])
log-event plan rack flat log index safe sound room is =
    log-then plan rack rack log (note.Event index ∷ []) is (record {
      room = room;
      told = λ before after held entries m.
          let now : Matches held entries (seen rack flat) = record { frames = m.frames; states = m.states } in
          ((tt, lawful_when_coherent plan held entries (seen rack flat) safe (room-within plan rack flat sound room) now, tt), record { frames = m.frames; states = m.states });
    })

-- the log of every list of events from a rack that starts
pub logs_tell : (images : List Image) (plan : RackPlan) (events : List Event) (first last : RackView) (noted : List Note) → IsFit plan → IsStart plan first → AreOfRack events
    → Reaches images events first last noted → IsLogOf plan last noted
logs_tell images plan events first last noted fit start fits reaches =
    log-then plan first last [] noted (starts_log plan first start)
    (run_tells images plan events first last noted fits (starts plan first fit start) (starts_room plan first start) reaches)

pub logs_lawful : (images : List Image) (plan : RackPlan) (events : List Event) (first last : RackView) (noted before after : List Note) (n : Note) → IsFit plan → IsStart plan first → AreOfRack events
    → Reaches images events first last noted → noted ≡ before ++ n ∷ after → MayBeNoted (in_force before) n × IsLawful plan (held_after (held_by before) n) (entries_after (in_force before) n)
logs_lawful images plan events first last noted before after n fit start fits reaches split =
    lawful_at_point plan no_holdings no_entries before n after (subst (AreLawful plan no_holdings no_entries) split (logs_tell images plan events first last noted fit start fits reaches).lawful)
