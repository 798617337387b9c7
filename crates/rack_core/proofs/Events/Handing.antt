-- A message that a link gave is handed to the node at its end, whichever node that is.
use Rattle.std.proofs.Common.{◌≡◌, ℕ, ◌<◌, List, ◌∷◌, ◌++◌, length, slice_get, slice_set, Option, Some, ap, sym, refl, subst, ◌==◌, Bool, true, false, ◌∙◌, []}
use Rattle.std.proofs.lemmas.Bool.{eqb-true}
use Rattle.std.proofs.lemmas.List.{length-set}
use Rattle.std.proofs.lemmas.Option.{same_Some}
use Rattle.std.specs.List.{AllByRecursion}
use Rattle.mind_base.specs.Page.{PageView}
use Rattle.mind_base.specs.declared.images.Image.{Image}
use Rattle.mind_base.specs.declared.links.LinkKind.{LinkKind}
use Rattle.mind_base.specs.declared.links.LinkKind.TheVariants.{Up, Down, To, From}
use Rattle.mind_base.specs.declared.notes.Note.{Note}
use Rattle.page_image.specs.PageImage.{PageImageView}
use Rattle.protect_table.specs.Protect.{permission_at}
use Rattle.wire_msg.specs.declared.msgs.Msg.{Msg}
use Rattle.wire_msg.specs.declared.msgs.Msg.TheVariants.{Back, Read, Write}
use Rattle.compute_blade.specs.Blade.{BladeView, BladeEffect}
use Rattle.compute_blade.specs.Messages.{after_message}
use Rattle.memory_blade.specs.MemoryBlade as memory
use Rattle.switch_core.specs.Switch.{SwitchView, place_in}
use Rattle.coherence.specs.Facts.{IsCoherent, AreUps}
use Rattle.coherence.specs.World.{World}
use Rattle.coherence.proofs.Callers.{run_keeps, put-here}
use Rattle.rack_core.specs.BladeMoves.{AreBladesSound, IsSoundBlade}
use Rattle.rack_core.specs.Events.{BladeDoes, HandsTo, HandsAll}
use Rattle.rack_core.specs.Handing.{AsksOn, AskOn}
use Rattle.rack_core.specs.Rack.{RackView}
use Rattle.rack_core.specs.Safe.{IsSound}
use Rattle.rack_core.specs.Seen.{pending_on, seen}
use Rattle.rack_core.specs.SwitchMoves.{AreAsked, AsksAt, LieBelow, LiesWhere, HasPlaces, with_front}
use Rattle.rack_core.proofs.Moves.Blade.Handed.{did, blade_handed}
use Rattle.rack_core.proofs.Moves.Blade.Seen.{pending-away}
use Rattle.rack_core.proofs.Lists.Lookups.{slice_get-set, slice_get-set_other}
use Rattle.rack_core.proofs.Moves.Memory.Handed.{memory_handed, asked_for, memory_keeps}
use Rattle.rack_core.proofs.Moves.Switch.Handed.{Handed, switch_handed_up, switch_handed_from}

-- what comes of it: the rack is coherent with the rest still to be handed over, and sound, and pages lie
-- where they lay
pub record After (kind : LinkKind) (number : ℕ) (rest : List Msg) (old new : RackView) : Type 0 where
  pub flat : PageView → PageImageView
  pub coherent : IsCoherent (with_front kind number rest (seen new flat))
  pub sound : IsSound new
  pub places : place_in new.switch ≡ place_in old.switch

-- ---- a compute blade

-- what a blade does leaves the switch and the memory blades, and nothing more goes to memory blades
pub record Leaves (old new : RackView) : Type 0 where
  pub switch : new.switch ≡ old.switch
  pub memories : new.memories ≡ old.memories
  pub tos : (memory : ℕ) → pending_on new.net To memory ≡ pending_on old.net To memory

pub blade_leaves : (c : ℕ) (act : BladeView → Option BladeEffect) (old new : RackView) (noted : List Note) → BladeDoes c act old new noted → Leaves old new
blade_leaves c act old new noted does =
    let d = did c act old new noted does in
    let acts = d.acts in
    record {
      switch = ap (λ (r : RackView). r.switch) acts.after;
      memories = ap (λ (r : RackView). r.memories) acts.after;
      tos = λ m. ap (λ (r : RackView). pending_on r.net To m) acts.after ∙ pending-away c d.effect.sent old.net acts.net acts.sent To m refl;
    }

pub still_sound : (old new : RackView) → Leaves old new → AreBladesSound new → IsSound old → IsSound new
still_sound old new leaves blades sound = record {
  blades = blades;
  switch = subst (λ (s : SwitchView). Rattle.rack_core.specs.SwitchMoves.IsSoundSwitch s) (sym leaves.switch) sound.switch;
  asked = λ m. subst (λ (s : SwitchView). AllByRecursion (AsksAt (place_in s) m) (pending_on new.net To m)) (sym leaves.switch)
      (subst (AllByRecursion (AsksAt (place_in old.switch) m)) (sym (leaves.tos m)) (sound.asked m));
  room = λ m pages e. subst (λ (s : SwitchView). LieBelow (place_in s) m (length pages)) (sym leaves.switch)
      (sound.room m pages (ap (λ ms. slice_get ms m) (sym leaves.memories) ∙ e));
}

handed_down : (images : List Image) (number : ℕ) (message : Msg) (rest : List Msg) (old new : RackView) (flat : PageView → PageImageView) (noted : List Note)
    → IsCoherent (with_front Down number (message ∷ rest) (seen old flat)) → IsSound old → HandsTo Down images number message old new noted
    → After Down number rest old new
handed_down images number message rest old new flat noted safe sound hands =
    let led = blade_handed images old new flat number message rest noted safe sound.blades hands in
    let leaves = blade_leaves number (λ blade. Some (after_message images message blade)) old new noted hands in
    record {
      flat = led.leads.flat;
      coherent = run_keeps _ _ led.leads.moves safe led.leads.run;
      sound = still_sound old new leaves led.leads.sound sound;
      places = ap place_in leaves.switch;
    }

-- ---- the switch

-- an image that goes back is of a page that lies somewhere
pub lies_up : (w : World) (number : ℕ) (message : Msg) (behind : List Msg) → AreUps w number (message ∷ behind) → LiesWhere w message
lies_up w number (Back page image) behind ups = ups.0.placed
lies_up w number message behind ups = tt

-- what the switch does leaves blades and memory blades
switch_sound : (first last : World) (old new : RackView) (noted : List Note) → IsSound old → Handed first last old.switch new noted
    → new.blades ≡ old.blades → new.memories ≡ old.memories → first.perms ≡ permission_at old.switch.protect → first.places ≡ place_in old.switch → IsSound new
switch_sound first last old new noted sound handed blades memories perms places = record {
  blades = λ c blade e. subst (λ f. IsSoundBlade f blade) (sym perms ∙ handed.places.perms) (sound.blades c blade (ap (λ bs. slice_get bs c) (sym blades) ∙ e));
  switch = handed.sound;
  asked = handed.asked;
  room = λ m pages e. subst (λ f. LieBelow f m (length pages)) (sym places ∙ handed.places.places) (sound.room m pages (ap (λ ms. slice_get ms m) (sym memories) ∙ e));
}

switch_after : (kind : LinkKind) (number : ℕ) (rest : List Msg) (first : World) (old new : RackView) (flat : PageView → PageImageView) (noted : List Note) → IsCoherent first → IsSound old
    → Handed first (with_front kind number rest (seen new flat)) old.switch new noted
    → new.blades ≡ old.blades → new.memories ≡ old.memories → first.perms ≡ permission_at old.switch.protect → first.places ≡ place_in old.switch → After kind number rest old new
switch_after kind number rest first old new flat noted safe sound handed blades memories perms places = record {
  flat = flat;
  coherent = run_keeps _ _ handed.moves.0 safe handed.moves.1;
  sound = switch_sound first (with_front kind number rest (seen new flat)) old new noted sound handed blades memories perms places;
  places = sym handed.places.places ∙ places;
}

handed_up : (images : List Image) (number : ℕ) (message : Msg) (rest : List Msg) (old new : RackView) (flat : PageView → PageImageView) (noted : List Note)
    → IsCoherent (with_front Up number (message ∷ rest) (seen old flat)) → IsSound old → number < 8 → HandsTo Up images number message old new noted
    → After Up number rest old new
handed_up images number message rest old new flat noted safe sound lt hands =
    let w = with_front Up number (message ∷ rest) (seen old flat) in
    let head = subst (AreUps w number) (put-here number (message ∷ (rest ++ pending_on old.net Up number)) (pending_on old.net Up)) (safe.ups number) in
    switch_after Up number rest w old new flat noted safe sound
    (switch_handed_up old new flat number message rest noted safe sound.switch sound.asked lt (lies_up w number message _ head) hands)
    (ap (λ (r : RackView). r.blades) hands.after) (ap (λ (r : RackView). r.memories) hands.after) refl refl

handed_from : (images : List Image) (number : ℕ) (message : Msg) (rest : List Msg) (old new : RackView) (flat : PageView → PageImageView) (noted : List Note)
    → IsCoherent (with_front From number (message ∷ rest) (seen old flat)) → IsSound old → number < 8 → HandsTo From images number message old new noted
    → After From number rest old new
handed_from images number message rest old new flat noted safe sound lt hands =
    switch_after From number rest (with_front From number (message ∷ rest) (seen old flat)) old new flat noted safe sound
    (switch_handed_from old new flat number message rest noted safe sound.switch sound.asked lt hands)
    (ap (λ (r : RackView). r.blades) hands.after) (ap (λ (r : RackView). r.memories) hands.after) refl refl

-- ---- a memory blade

-- as many images as there were
length_after : (places : PageView → Option (ℕ × ℕ)) (number : ℕ) (images : List PageImageView) (message : Msg) → AsksAt places number message
    → length (memory.images_after images message) ≡ length images
length_after places number images (Read phys blade page) asks = refl
length_after places number images (Write phys image) asks = length-set images phys image
length_after places number images message asks = absurd asks

-- each memory blade has an image for each page that lies there, when one has as many as it had
room_after : (places : PageView → Option (ℕ × ℕ)) (memories : List (List PageImageView)) (number : ℕ) (images later : List PageImageView) → slice_get memories number ≡ Some images
    → length later ≡ length images → ((m : ℕ) (pages : List PageImageView) → slice_get memories m ≡ Some pages → LieBelow places m (length pages))
    → (m : ℕ) (pages : List PageImageView) → slice_get (slice_set memories number later) m ≡ Some pages → LieBelow places m (length pages)
room_after places memories number images later there same room m pages e = by (m == number) refl where
  by : (b : Bool) → (m == number) ≡ b → LieBelow places m (length pages)
  by true is =
      let here : m ≡ number = eqb-true m number is in
      let now : later ≡ pages = same_Some _ _ (sym (slice_get-set memories number images later there) ∙ ap (slice_get (slice_set memories number later)) (sym here) ∙ e) in
      subst (λ n. LieBelow places n (length pages)) (sym here) (subst (LieBelow places number) (sym same ∙ ap length now) (room number images there))
  by false is = room m pages (sym (slice_get-set_other memories number later m is) ∙ e)

handed_to : (images : List Image) (number : ℕ) (message : Msg) (rest : List Msg) (old new : RackView) (flat : PageView → PageImageView) (noted : List Note)
    → IsCoherent (with_front To number (message ∷ rest) (seen old flat)) → IsSound old → AsksAt (place_in old.switch) number message → HandsTo To images number message old new noted
    → After To number rest old new
handed_to images number message rest old new flat noted safe sound asks hands =
    let fits = asked_for (place_in old.switch) number (length hands.images) message asks (sound.room number hands.images hands.before) in
    let led = memory_handed old new flat number message rest noted safe hands fits in
    let switch : new.switch ≡ old.switch = ap (λ (r : RackView). r.switch) hands.after in
    let rooms : (m : ℕ) (pages : List PageImageView) → slice_get new.memories m ≡ Some pages → LieBelow (place_in old.switch) m (length pages) =
    λ m pages e. room_after (place_in old.switch) old.memories number hands.images (memory.images_after hands.images message) hands.before
    (length_after (place_in old.switch) number hands.images message asks) sound.room m pages (ap (λ (r : RackView). slice_get r.memories m) (sym hands.after) ∙ e) in
    record {
      flat = flat;
      coherent = run_keeps _ _ led.0 safe led.1;
      sound = record {
        blades = λ c blade e. subst (λ (s : SwitchView). IsSoundBlade (permission_at s.protect) blade) (sym switch)
            (sound.blades c blade (ap (λ (r : RackView). slice_get r.blades c) (sym hands.after) ∙ e));
        switch = subst (λ (s : SwitchView). Rattle.rack_core.specs.SwitchMoves.IsSoundSwitch s) (sym switch) sound.switch;
        asked = memory_keeps old new number message noted hands sound.asked;
        room = λ m pages e. subst (λ (s : SwitchView). LieBelow (place_in s) m (length pages)) (sym switch) (rooms m pages e);
      };
      places = ap place_in switch;
    }

-- ---- whichever it is

pub handed_over : (images : List Image) (kind : LinkKind) (number : ℕ) (message : Msg) (rest : List Msg) (old new : RackView) (flat : PageView → PageImageView) (noted : List Note)
    → IsCoherent (with_front kind number (message ∷ rest) (seen old flat)) → IsSound old → number < 8 → AsksOn kind (place_in old.switch) number message
    → HandsTo kind images number message old new noted → After kind number rest old new
handed_over images Up number message rest old new flat noted safe sound lt asks hands = handed_up images number message rest old new flat noted safe sound lt hands
handed_over images Down number message rest old new flat noted safe sound lt asks hands = handed_down images number message rest old new flat noted safe sound hands
handed_over images To number message rest old new flat noted safe sound lt asks hands = handed_to images number message rest old new flat noted safe sound asks hands
handed_over images From number message rest old new flat noted safe sound lt asks hands = handed_from images number message rest old new flat noted safe sound lt hands

-- ---- one after another

-- what holds of no message, and of one before others where it holds of those, holds of all that a link gave
pub each-handed : (images : List Image) (kind : LinkKind) (number : ℕ) (P : List Msg → RackView → RackView → List Note → Type 0)
    → ((old new : RackView) (noted : List Note) → new ≡ old → noted ≡ [] → P [] old new noted)
    → ((message : Msg) (rest : List Msg) (old mid new : RackView) (flat : PageView → PageImageView) (first later : List Note) → IsCoherent (with_front kind number (message ∷ rest) (seen old flat)) → IsSound old
    → HandsTo kind images number message old mid first → P rest mid new later → P (message ∷ rest) old new (first ++ later))
    → (messages : List Msg) (old new : RackView) (flat : PageView → PageImageView) (noted : List Note)
    → IsCoherent (with_front kind number messages (seen old flat)) → IsSound old → number < 8 → AskOn kind (place_in old.switch) number messages
    → HandsAll images (record { kind = kind; number = number }) messages old new noted → P messages old new noted
each-handed images kind number P none more [] old new flat noted coherent sound lt asks hands = none old new noted hands.0 hands.1
each-handed images kind number P none more (message ∷ rest) old new flat noted coherent sound lt asks hands =
    let first = handed_over images kind number message rest old hands.0 flat hands.1 coherent sound lt asks.0 hands.3 in
    let asks_later = subst (λ f. AllByRecursion (AsksOn kind f number) rest) (sym first.places) asks.1 in
    subst (P (message ∷ rest) old new) (sym hands.5) (more message rest old hands.0 new flat hands.1 hands.2 coherent sound hands.3
    (each-handed images kind number P none more rest hands.0 new first.flat hands.2 first.coherent first.sound lt asks_later hands.4))
