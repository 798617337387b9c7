-- The notes of what is handed to the switch tell of it, and nothing is noted where the network or a memory blade changes.
use Rattle.std.proofs.Common.{◌≡◌, refl, sym, ◌∙◌, ap, subst, ℕ, ◌<◌, List, [], ◌∷◌, ◌++◌, slice_get}
use Rattle.mind_base.specs.Page.{PageView}
use Rattle.mind_base.specs.declared.images.Image.{Image}
use Rattle.mind_base.specs.declared.links.LinkKind.{LinkKind}
use Rattle.mind_base.specs.declared.links.LinkKind.TheVariants.{Up, Down, To, From}
use Rattle.mind_base.specs.declared.links.LinkName.{LinkName}
use Rattle.mind_base.specs.declared.links.Side.{Side}
use Rattle.mind_base.specs.declared.notes.Note.{Note}
use Rattle.mind_base.specs.declared.plans.RackPlan.{RackPlan}
use Rattle.page_image.specs.PageImage.{PageImageView}
use Rattle.wire_msg.specs.declared.msgs.Msg.{Msg}
use Rattle.switch_core.specs.Switch.{place_in}
use Rattle.coherence.specs.Facts.{IsCoherent, AreUps}
use Rattle.coherence.specs.Lawful.{Tells}
use Rattle.coherence.proofs.Callers.{put-here, IsAlike, alike-back, tells-between, tells_nothing, tells_then, alike-same}
use Rattle.rack_core.specs.BladeMoves.{AreBladesSound}
use Rattle.rack_core.specs.Events.{HandsTo, HandsAll, Delivers}
use Rattle.rack_core.specs.Handing.{AskOn}
use Rattle.rack_core.specs.Rack.{RackView, with_net}
use Rattle.rack_core.specs.Safe.{IsSound}
use Rattle.rack_core.specs.Seen.{pending_on, frame_at, region_at, seen}
use Rattle.rack_core.specs.SwitchMoves.{HasSlots, with_front}
use Rattle.rack_core.specs.Telling.{HasRoom, NotesTell}
use Rattle.rack_core.proofs.Log.Held.Blades.{holds_few}
use Rattle.rack_core.proofs.Events.Delivering.{gave_on, asks_taken, with_net-sound}
use Rattle.rack_core.proofs.Events.Handing.{lies_up, each-handed}
use Rattle.rack_core.proofs.Moves.Switch.Handed.{switch_handed_up, switch_handed_from}
use Rattle.rack_core.proofs.Log.Held.SwitchNotes.{HoldsWithin}

-- ---- what matters of a world

-- what is ahead on a link does not, nor do the newest images
pub front-alike : (kind : LinkKind) (number : ℕ) (messages : List Msg) (rack : RackView) (flat after : PageView → PageImageView) → IsAlike (with_front kind number messages (seen rack flat)) (seen rack after)
front-alike Up number messages rack flat after = alike-same (with_front Up number messages (seen rack flat)) (seen rack after) refl refl
front-alike Down number messages rack flat after = alike-same (with_front Down number messages (seen rack flat)) (seen rack after) refl refl
front-alike To number messages rack flat after = alike-same (with_front To number messages (seen rack flat)) (seen rack after) refl refl
front-alike From number messages rack flat after = alike-same (with_front From number messages (seen rack flat)) (seen rack after) refl refl

-- ---- frames

-- a sound blade holds no more pages than it has frames
pub holds_within : (plan : RackPlan) (rack : RackView) (flat : PageView → PageImageView) → AreBladesSound rack → HasRoom plan rack → HoldsWithin plan (seen rack flat)
holds_within plan rack flat sound room = holds_few plan rack sound room.frames

-- ---- nothing is noted where neither blades nor switch change

pub nothing_told : (plan : RackPlan) (old new : RackView) (noted : List Note) → new.blades ≡ old.blades → new.switch ≡ old.switch → noted ≡ [] → HasRoom plan old → NotesTell plan old new noted
nothing_told plan old new noted blades switch none room = record {
  room = record {
    slots = subst (HasSlots plan) (sym switch) room.slots;
    frames = λ c blade at. room.frames c blade (ap (λ bs. slice_get bs c) (sym blades) ∙ at);
  };
  told = λ flat after. subst (λ n. Tells plan (seen old flat) n (seen new after)) (sym none)
      (tells_nothing plan (seen old flat) (seen new after) (alike-same (seen old flat) (seen new after) (ap frame_at blades) (ap (λ s. region_at s.directory.entries) switch)));
}

-- one change after another
pub told-then : (plan : RackPlan) (a b c : RackView) (first later : List Note) → NotesTell plan a b first → NotesTell plan b c later → NotesTell plan a c (first ++ later)
told-then plan a b c first later one two = record {
  room = two.room;
  told = λ flat after. tells_then plan (seen a flat) (seen b flat) (seen c after) first later (one.told flat flat) (two.told flat after);
}

-- ---- what is handed to the switch

pub switch_tells_up : (images : List Image) (plan : RackPlan) (number : ℕ) (message : Msg) (rest : List Msg) (old new : RackView) (flat : PageView → PageImageView) (noted : List Note)
    → IsCoherent (with_front Up number (message ∷ rest) (seen old flat)) → IsSound old → number < 8 → HasRoom plan old → HandsTo Up images number message old new noted → NotesTell plan old new noted
switch_tells_up images plan number message rest old new flat noted safe sound lt room hands =
    let w = with_front Up number (message ∷ rest) (seen old flat) in
    let head = subst (AreUps w number) (put-here number (message ∷ (rest ++ pending_on old.net Up number)) (pending_on old.net Up)) (safe.ups number) in
    let told = (switch_handed_up old new flat number message rest noted safe sound.switch sound.asked lt (lies_up w number message (rest ++ pending_on old.net Up number) head) hands).told plan
    (holds_within plan old flat sound.blades room) room.slots in
    record {
      room = record { slots = told.0; frames = λ c blade at. room.frames c blade (ap (λ (r : RackView). slice_get r.blades c) (sym hands.after) ∙ at) };
      told = λ before after. tells-between plan (seen old before) w (with_front Up number rest (seen new flat)) (seen new after) noted
          (alike-back w (seen old before) (front-alike Up number (message ∷ rest) old flat before)) (front-alike Up number rest new flat after) told.1;
    }

pub switch_tells_from : (images : List Image) (plan : RackPlan) (number : ℕ) (message : Msg) (rest : List Msg) (old new : RackView) (flat : PageView → PageImageView) (noted : List Note)
    → IsCoherent (with_front From number (message ∷ rest) (seen old flat)) → IsSound old → number < 8 → HasRoom plan old → HandsTo From images number message old new noted → NotesTell plan old new noted
switch_tells_from images plan number message rest old new flat noted safe sound lt room hands =
    let w = with_front From number (message ∷ rest) (seen old flat) in
    let told = (switch_handed_from old new flat number message rest noted safe sound.switch sound.asked lt hands).told plan (holds_within plan old flat sound.blades room) room.slots in
    record {
      room = record { slots = told.0; frames = λ c blade at. room.frames c blade (ap (λ (r : RackView). slice_get r.blades c) (sym hands.after) ∙ at) };
      told = λ before after. tells-between plan (seen old before) w (with_front From number rest (seen new flat)) (seen new after) noted
          (alike-back w (seen old before) (front-alike From number (message ∷ rest) old flat before)) (front-alike From number rest new flat after) told.1;
    }

-- ---- messages one after another

-- what is to be shown of one message on a link of this kind
abbrev pub HandTells : List Image → RackPlan → LinkKind → ℕ → Type 0
HandTells images plan kind number = (message : Msg) (rest : List Msg) (old new : RackView) (flat : PageView → PageImageView) (noted : List Note)
    → IsCoherent (with_front kind number (message ∷ rest) (seen old flat)) → IsSound old → HasRoom plan old → HandsTo kind images number message old new noted → NotesTell plan old new noted

pub all_told : (images : List Image) (plan : RackPlan) (kind : LinkKind) (number : ℕ) → HandTells images plan kind number
    → (messages : List Msg) (old new : RackView) (flat : PageView → PageImageView) (noted : List Note) → IsCoherent (with_front kind number messages (seen old flat)) → IsSound old → number < 8
    → AskOn kind (place_in old.switch) number messages → HasRoom plan old → HandsAll images (record { kind = kind; number = number }) messages old new noted → NotesTell plan old new noted
all_told images plan kind number one messages old new flat noted safe sound lt asks room hands =
    each-handed images kind number (λ messages old new noted. HasRoom plan old → NotesTell plan old new noted)
    (λ old new noted same none room. nothing_told plan old new noted (ap (λ (r : RackView). r.blades) same) (ap (λ (r : RackView). r.switch) same) none room)
    (λ message rest old mid new flat first later safe sound hands rest_told room.
    let told = one message rest old mid flat first safe sound room hands in
    told-then plan old mid new first later told (rest_told told.room))
    messages old new flat noted safe sound lt asks hands room

pub deliver_tells : (images : List Image) (plan : RackPlan) (name : LinkName) (side : Side) (k : ℕ) → HandTells images plan name.kind name.number
    → (old new : RackView) (flat : PageView → PageImageView) (noted : List Note) → name.number < 8 → IsCoherent (seen old flat) → IsSound old → HasRoom plan old → Delivers images name side k old new noted
    → NotesTell plan old new noted
deliver_tells images plan name side k one old new flat noted lt coherent sound room given =
    let fifo = given.gives.fifo in
    let mid = with_net given.net old in
    let first = nothing_told plan old mid [] refl refl refl room in
    told-then plan old mid new [] noted first
    (all_told images plan name.kind name.number one given.taken mid new flat noted (subst IsCoherent (gave_on name.kind name.number given.taken old given.net flat fifo given.only) coherent)
    (with_net-sound name.kind name.number given.taken old given.net fifo given.only sound) lt (asks_taken name.kind name.number given.taken old given.net fifo sound.asked) first.room given.handed)

-- all kinds but those down to blades
pub hand_tells_up : (images : List Image) (plan : RackPlan) (number : ℕ) → number < 8 → HandTells images plan Up number
hand_tells_up images plan number lt message rest old new flat noted safe sound room hands = switch_tells_up images plan number message rest old new flat noted safe sound lt room hands

pub hand_tells_from : (images : List Image) (plan : RackPlan) (number : ℕ) → number < 8 → HandTells images plan From number
hand_tells_from images plan number lt message rest old new flat noted safe sound room hands = switch_tells_from images plan number message rest old new flat noted safe sound lt room hands

pub hand_tells_to : (images : List Image) (plan : RackPlan) (number : ℕ) → HandTells images plan To number
hand_tells_to images plan number message rest old new flat noted safe sound room hands =
    nothing_told plan old new noted (ap (λ (r : RackView). r.blades) hands.after) (ap (λ (r : RackView). r.switch) hands.after) hands.notes room
