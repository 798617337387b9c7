-- A message that is handed to the switch leads the rack on by moves.
use Rattle.std.proofs.Common.{◌≡◌, refl, sym, ◌∙◌, ap, subst, ℕ, ◌<◌, List, ◌∷◌, ◌++◌, append-nil}
use Rattle.std.specs.List.{AllByRecursion}
use Rattle.std.proofs.Math.Path.{fun_ext}
use Rattle.mind_base.specs.Page.{PageView}
use Rattle.mind_base.specs.declared.links.LinkKind.{LinkKind}
use Rattle.mind_base.specs.declared.links.LinkKind.TheVariants.{Up, Down, To, From}
use Rattle.mind_base.specs.declared.notes.Note.{Note}
use Rattle.mind_base.specs.declared.plans.RackPlan.{RackPlan}
use Rattle.mind_base.specs.declared.links.LinkName.{LinkName}
use Rattle.page_image.specs.PageImage.{PageImageView}
use Rattle.wire_msg.specs.declared.msgs.Msg.{Msg}
use Rattle.wire_msg.specs.declared.msgs.Msg.TheVariants.{Back}
use Rattle.rack_net.specs.Net.{NetView}
use Rattle.switch_core.specs.Switch.{SwitchView, SwitchEffect, place_in}
use Rattle.switch_core.proofs.Callers.{all-append}
use Rattle.coherence.proofs.Callers.{put-here}
use Rattle.coherence.specs.Facts.{IsCoherent, AreFroms}
use Rattle.coherence.specs.Lawful.{Tells}
use Rattle.coherence.specs.World.{World, put}
use Rattle.rack_core.specs.Events.{SendsAll, SwitchHears}
use Rattle.rack_core.specs.Rack.{RackView, with_net, with_switch}
use Rattle.rack_core.specs.Seen.{pending_on, seen, sent_on}
use Rattle.rack_core.specs.SwitchMoves.{shown, Shows, HasPlaces, IsSoundSwitch, SendsNoneUp, AsksAt, AskPlaces, AreAsked, LeadsByMoves, HasSlots, LiesWhere, taken_from, with_front}
use Rattle.rack_core.proofs.Moves.Switch.Hears.{switch_moves}
use Rattle.rack_core.proofs.Log.Held.SwitchNotes.{HoldsWithin}
use Rattle.rack_core.proofs.Moves.Runs.{leads_keeps}
use Rattle.rack_core.proofs.Moves.Sent.{sends_all}
use Rattle.rack_core.proofs.Moves.Blade.Worlds.{put-again}
use Rattle.rack_core.proofs.Moves.Switch.Worlds.{Follows}

-- the last value at a number counts
pub put-twice : {X : Type 0} (k : ℕ) (x y : X) (f : ℕ → X) → put k x (put k y f) ≡ put k x f
put-twice k x y f = fun_ext (put-again k x y f)

pub shows_front : (kind : LinkKind) (number : ℕ) (messages : List Msg) (rack : RackView) (flat : PageView → PageImageView) → Shows (with_front kind number messages (seen rack flat)) rack.switch
shows_front Up number messages rack flat = record { wants = refl; regions = refl; last = refl; places = record { places = refl; perms = refl } }
shows_front Down number messages rack flat = record { wants = refl; regions = refl; last = refl; places = record { places = refl; perms = refl } }
shows_front To number messages rack flat = record { wants = refl; regions = refl; last = refl; places = record { places = refl; perms = refl } }
shows_front From number messages rack flat = record { wants = refl; regions = refl; last = refl; places = record { places = refl; perms = refl } }

-- what the switch and the links are after
module _ (old : RackView) (flat : PageView → PageImageView) (number : ℕ) (rest : List Msg) (effect : SwitchEffect) (net : NetView) (sent : SendsAll effect.sent old.net net) (quiet : SendsNoneUp effect.sent) where
  ups : pending_on old.net Up ≡ pending_on net Up
  ups = fun_ext (λ n. sym (sends_all Up n effect.sent old.net net sent ∙ ap (λ s. pending_on old.net Up n ++ s) (quiet n).0 ∙ append-nil (pending_on old.net Up n)))

  froms : pending_on old.net From ≡ pending_on net From
  froms = fun_ext (λ n. sym (sends_all From n effect.sent old.net net sent ∙ ap (λ s. pending_on old.net From n ++ s) (quiet n).1 ∙ append-nil (pending_on old.net From n)))

  downs : (λ n. pending_on old.net Down n ++ sent_on Down n effect.sent) ≡ pending_on net Down
  downs = fun_ext (λ n. sym (sends_all Down n effect.sent old.net net sent))

  tos : (λ n. pending_on old.net To n ++ sent_on To n effect.sent) ≡ pending_on net To
  tos = fun_ext (λ n. sym (sends_all To n effect.sent old.net net sent))

  -- the first message is taken, and what was pending on the link is pending
  behind : (was now : ℕ → List Msg) → was ≡ now → (message : Msg) → put number (rest ++ was number) (put number (message ∷ rest ++ was number) was) ≡ put number (rest ++ now number) now
  behind was now same message = put-twice number (rest ++ was number) (message ∷ rest ++ was number) was ∙ ap (λ f. put number (rest ++ f number) f) same

  seen_up : (message : Msg) → HasPlaces (with_front Up number (message ∷ rest) (seen old flat)) effect.switch
      → shown (taken_from Up number (rest ++ pending_on old.net Up number) (with_front Up number (message ∷ rest) (seen old flat))) effect
      ≡ with_front Up number rest (seen (with_net net (with_switch effect.switch old)) flat)
  seen_up message places = λ i. record (seen (with_net net (with_switch effect.switch old)) flat) { ups = behind (pending_on old.net Up) (pending_on net Up) ups message i; downs = downs i; tos = tos i; froms = froms i; places = places.places i; perms = places.perms i }

  seen_from : (message : Msg) → HasPlaces (with_front From number (message ∷ rest) (seen old flat)) effect.switch
      → shown (taken_from From number (rest ++ pending_on old.net From number) (with_front From number (message ∷ rest) (seen old flat))) effect
      ≡ with_front From number rest (seen (with_net net (with_switch effect.switch old)) flat)
  seen_from message places = λ i. record (seen (with_net net (with_switch effect.switch old)) flat) { ups = ups i; downs = downs i; tos = tos i; froms = behind (pending_on old.net From) (pending_on net From) froms message i; places = places.places i; perms = places.perms i }

-- What is so after a message was handed to the switch: moves, a sound switch with the same places and
-- permissions, memory blades are asked for what lies there, and the notes tell of it.
pub record Handed (first last : World) (before : SwitchView) (rack : RackView) (noted : List Note) : Type 0 where
  pub moves : LeadsByMoves first last
  pub sound : IsSoundSwitch rack.switch
  pub places : HasPlaces first rack.switch
  pub asked : AreAsked rack
  pub told : (plan : RackPlan) → HoldsWithin plan first → HasSlots plan before → HasSlots plan rack.switch × Tells plan first noted last

-- what is pending to memory blades is what was, and what is asked then
still_asked : (old : RackView) (effect : SwitchEffect) (net : NetView) → SendsAll effect.sent old.net net → place_in old.switch ≡ place_in effect.switch → AreAsked old → AskPlaces (place_in old.switch) effect.sent
    → AreAsked (with_net net (with_switch effect.switch old))
still_asked old effect net sent places before asks m =
    subst (λ f. AllByRecursion (AsksAt f m) (pending_on net To m)) places
    (subst (AllByRecursion (AsksAt (place_in old.switch) m)) (sym (sends_all To m effect.sent old.net net sent))
    (all-append (AsksAt (place_in old.switch) m) (pending_on old.net To m) (sent_on To m effect.sent) (before m) (asks m)))

-- what the switch did with a message, from a world that is seen again, with it taken, in the rack after
heard_by : (old new : RackView) (w taken : World) (last : RackView → World) (link : LinkName) (message : Msg) (noted : List Note) (hears : SwitchHears link message old new noted) → IsCoherent w → AreAsked old
    → taken.places ≡ place_in old.switch → Follows w taken old.switch hears.effect
    → HasPlaces w hears.effect.switch → place_in old.switch ≡ place_in hears.effect.switch → shown taken hears.effect ≡ last (with_net hears.net (with_switch hears.effect.switch old))
    → Handed w (last new) old.switch new noted
heard_by old new w taken last link message noted hears safe before asked done places lie same =
    subst (λ r. Handed w (last r) old.switch r noted) (sym hears.after) (record {
      moves = subst (λ v. LeadsByMoves w v) same done.moves;
      sound = done.sound;
      places = places;
      asked = still_asked old hears.effect hears.net hears.sent lie before (subst (λ f. AskPlaces f hears.effect.sent) asked done.asks);
      told = λ plan holds slots.
          let told = done.told plan safe (leads_keeps w (shown taken hears.effect) safe done.moves) holds slots in
          (told.0, subst (λ v. Tells plan w noted v) same (subst (λ n. Tells plan w n (shown taken hears.effect)) (sym hears.notes) told.1));
    })

pub switch_handed_up : (old new : RackView) (flat : PageView → PageImageView) (number : ℕ) (message : Msg) (rest : List Msg) (noted : List Note)
    → IsCoherent (with_front Up number (message ∷ rest) (seen old flat)) → IsSoundSwitch old.switch → AreAsked old → number < 8 → LiesWhere (seen old flat) message
    → SwitchHears (record { kind = Up; number = number }) message old new noted
    → Handed (with_front Up number (message ∷ rest) (seen old flat)) (with_front Up number rest (seen new flat)) old.switch new noted
switch_handed_up old new flat number message rest noted safe sound before lt lies hears =
    let w = with_front Up number (message ∷ rest) (seen old flat) in
    let behind = rest ++ pending_on old.net Up number in
    let done = switch_moves w old.switch (record { kind = Up; number = number }) message behind hears.effect safe (shows_front Up number (message ∷ rest) old flat) sound lt lies
    (put-here number (message ∷ behind) (pending_on old.net Up)) hears.heard in
    let places : HasPlaces w hears.effect.switch = record { places = done.places.places; perms = done.places.perms } in
    heard_by old new w (taken_from Up number behind w) (λ r. with_front Up number rest (seen r flat)) (record { kind = Up; number = number }) message noted hears safe before refl done places done.places.places
    (seen_up old flat number rest hears.effect hears.net hears.sent done.quiet message places)

-- no page comes back from a memory blade
lies_from : (w : World) (number : ℕ) (message : Msg) (behind : List Msg) → AreFroms w number (message ∷ behind) → LiesWhere w message
lies_from w number (Back page image) behind known = absurd known.0
lies_from w number message behind known = tt

pub switch_handed_from : (old new : RackView) (flat : PageView → PageImageView) (number : ℕ) (message : Msg) (rest : List Msg) (noted : List Note)
    → IsCoherent (with_front From number (message ∷ rest) (seen old flat)) → IsSoundSwitch old.switch → AreAsked old → number < 8
    → SwitchHears (record { kind = From; number = number }) message old new noted
    → Handed (with_front From number (message ∷ rest) (seen old flat)) (with_front From number rest (seen new flat)) old.switch new noted
switch_handed_from old new flat number message rest noted safe sound before lt hears =
    let w = with_front From number (message ∷ rest) (seen old flat) in
    let behind = rest ++ pending_on old.net From number in
    let first : w.froms number ≡ message ∷ behind = put-here number (message ∷ behind) (pending_on old.net From) in
    let done = switch_moves w old.switch (record { kind = From; number = number }) message behind hears.effect safe (shows_front From number (message ∷ rest) old flat) sound lt
    (lies_from w number message behind (subst (AreFroms w number) first (safe.froms number))) first hears.heard in
    let places : HasPlaces w hears.effect.switch = record { places = done.places.places; perms = done.places.perms } in
    heard_by old new w (taken_from From number behind w) (λ r. with_front From number rest (seen r flat)) (record { kind = From; number = number }) message noted hears safe before refl done places done.places.places
    (seen_from old flat number rest hears.effect hears.net hears.sent done.quiet message places)
