-- A wire or a link changes, and what a link gives is handed over in order.
use Rattle.std.proofs.Common.{◌≡◌, ℕ, ◌<◌, ◌==◌, Bool, true, false, Option, List, [], ◌∷◌, ◌++◌, ap, sym, refl, subst, if◌then◌else◌, ◌∙◌}
use Rattle.std.specs.List.{AllByRecursion}
use Rattle.std.proofs.lemmas.Bool.{eqb-true}
use Rattle.mind_base.specs.Page.{PageView}
use Rattle.mind_base.specs.declared.images.Image.{Image}
use Rattle.mind_base.specs.declared.links.LinkKind.{LinkKind}
use Rattle.mind_base.specs.declared.links.LinkKind.TheVariants.{Up, Down, To, From}
use Rattle.mind_base.specs.declared.links.LinkName.{LinkName}
use Rattle.mind_base.specs.declared.links.Side.{Side}
use Rattle.mind_base.specs.declared.notes.Note.{Note}
use Rattle.page_image.specs.PageImage.{PageImageView}
use Rattle.wire_msg.specs.declared.msgs.Msg.{Msg}
use Rattle.rack_net.specs.Net.{NetView, links_of, ChangesOnly}
use Rattle.switch_core.specs.Switch.{place_in}
use Rattle.coherence.specs.Facts.{IsCoherent}
use Rattle.coherence.specs.World.{World, put}
use Rattle.rack_core.specs.Events.{HandsAll, Delivers}
use Rattle.rack_core.specs.Rack.{RackView, with_net}
use Rattle.rack_core.specs.Safe.{IsSound, IsSafe}
use Rattle.rack_core.specs.Seen.{pending_on, seen}
use Rattle.rack_core.specs.SwitchMoves.{AreAsked, AsksAt, with_front}
use Rattle.rack_core.proofs.Moves.Blade.Delivers.{other_link, flip}
use Rattle.rack_core.specs.Handing.{AsksOn, AskOn}
use Rattle.rack_core.proofs.Events.Handing.{After, handed_over}
use Rattle.rack_core.proofs.Lists.Parts.{all_front}

-- ---- messages one after another

pub all_handed : (images : List Image) (kind : LinkKind) (number : ℕ) (messages : List Msg) (old new : RackView) (flat : PageView → PageImageView) (noted : List Note)
    → IsCoherent (with_front kind number messages (seen old flat)) → IsSound old → number < 8 → AskOn kind (place_in old.switch) number messages
    → HandsAll images (record { kind = kind; number = number }) messages old new noted → After kind number [] old new
all_handed images kind number [] old new flat noted safe sound lt asks hands = record {
  flat = flat;
  coherent = subst (λ rack. IsCoherent (with_front kind number [] (seen rack flat))) (sym hands.0) safe;
  sound = subst IsSound (sym hands.0) sound;
  places = ap (λ (r : RackView). place_in r.switch) hands.0;
}
all_handed images kind number (message ∷ rest) old new flat noted safe sound lt asks hands =
    let first = handed_over images kind number message rest old hands.0 flat hands.1 safe sound lt asks.0 hands.3 in
    let asks_later = subst (λ f. AllByRecursion (AsksOn kind f number) rest) (sym first.places) asks.1 in
    let later = all_handed images kind number rest hands.0 new first.flat hands.2 first.coherent first.sound lt asks_later hands.4 in
    record { flat = later.flat; coherent = later.coherent; sound = later.sound; places = later.places ∙ first.places }

-- ---- what the link gave

-- nothing is still to be handed over
put-same : {X : Type 0} (k : ℕ) (f : ℕ → X) (n : ℕ) → put k (f k) f n ≡ f n
put-same k f n = by (n == k) refl where
  by : (b : Bool) → (n == k) ≡ b → (if b then f k else f n) ≡ f n
  by true e = ap f (sym (eqb-true n k e))
  by false e = refl

pub none_left : (kind : LinkKind) (number : ℕ) (w : World) → with_front kind number [] w ≡ w
none_left Up number w = λ i. record w { ups = λ n. put-same number w.ups n i }
none_left Down number w = λ i. record w { downs = λ n. put-same number w.downs n i }
none_left To number w = λ i. record w { tos = λ n. put-same number w.tos n i }
none_left From number w = λ i. record w { froms = λ n. put-same number w.froms n i }

-- what was pending on the link is what it gave, and what is pending then
front : (kind : LinkKind) (c : ℕ) (taken : List Msg) (old net : NetView) → pending_on old kind c ≡ taken ++ pending_on net kind c
    → ((n : ℕ) → (n == c) ≡ false → pending_on old kind n ≡ pending_on net kind n)
    → (n : ℕ) → pending_on old kind n ≡ put c (taken ++ pending_on net kind c) (pending_on net kind) n
front kind c taken old net fifo away n = by (n == c) refl where
  by : (b : Bool) → (n == c) ≡ b → pending_on old kind n ≡ (if b then taken ++ pending_on net kind c else pending_on net kind n)
  by true e = ap (pending_on old kind) (eqb-true n c e) ∙ fifo
  by false e = away n e

pub gave_on : (kind : LinkKind) (c : ℕ) (taken : List Msg) (old : RackView) (net : NetView) (flat : PageView → PageImageView)
    → pending_on old.net kind c ≡ taken ++ pending_on net kind c → ChangesOnly (record { kind = kind; number = c }) old.net net
    → seen old flat ≡ with_front kind c taken (seen (with_net net old) flat)
gave_on Up c taken old net flat fifo only = let name : LinkName = record { kind = Up; number = c } in λ i. record (seen old flat) {
  ups = λ n. front Up c taken old.net net fifo (λ n e. sym (other_link name old.net net only Up n (flip n c e))) n i;
  downs = λ n. sym (other_link name old.net net only Down n refl) i;
  tos = λ n. sym (other_link name old.net net only To n refl) i;
  froms = λ n. sym (other_link name old.net net only From n refl) i;
}
gave_on Down c taken old net flat fifo only = let name : LinkName = record { kind = Down; number = c } in λ i. record (seen old flat) {
  ups = λ n. sym (other_link name old.net net only Up n refl) i;
  downs = λ n. front Down c taken old.net net fifo (λ n e. sym (other_link name old.net net only Down n (flip n c e))) n i;
  tos = λ n. sym (other_link name old.net net only To n refl) i;
  froms = λ n. sym (other_link name old.net net only From n refl) i;
}
gave_on To c taken old net flat fifo only = let name : LinkName = record { kind = To; number = c } in λ i. record (seen old flat) {
  ups = λ n. sym (other_link name old.net net only Up n refl) i;
  downs = λ n. sym (other_link name old.net net only Down n refl) i;
  tos = λ n. front To c taken old.net net fifo (λ n e. sym (other_link name old.net net only To n (flip n c e))) n i;
  froms = λ n. sym (other_link name old.net net only From n refl) i;
}
gave_on From c taken old net flat fifo only = let name : LinkName = record { kind = From; number = c } in λ i. record (seen old flat) {
  ups = λ n. sym (other_link name old.net net only Up n refl) i;
  downs = λ n. sym (other_link name old.net net only Down n refl) i;
  tos = λ n. sym (other_link name old.net net only To n refl) i;
  froms = λ n. front From c taken old.net net fifo (λ n e. sym (other_link name old.net net only From n (flip n c e))) n i;
}

-- ---- what is asked of memory blades

all_unit : (places : PageView → Option (ℕ × ℕ)) (number : ℕ) (messages : List Msg)
    → AskOn Up places number messages × (AskOn Down places number messages × AskOn From places number messages)
all_unit places number [] = (tt, (tt, tt))
all_unit places number (m ∷ messages) = let rest = all_unit places number messages in ((tt, rest.0), ((tt, rest.1.0), (tt, rest.1.1)))

pub asks_taken : (kind : LinkKind) (c : ℕ) (taken : List Msg) (old : RackView) (net : NetView) → pending_on old.net kind c ≡ taken ++ pending_on net kind c
    → AreAsked old → AskOn kind (place_in old.switch) c taken
asks_taken Up c taken old net fifo asked = (all_unit (place_in old.switch) c taken).0
asks_taken Down c taken old net fifo asked = (all_unit (place_in old.switch) c taken).1.0
asks_taken To c taken old net fifo asked = (all_front (AsksAt (place_in old.switch) c) taken (pending_on net To c) (subst (AllByRecursion (AsksAt (place_in old.switch) c)) fifo (asked c))).0
asks_taken From c taken old net fifo asked = (all_unit (place_in old.switch) c taken).1.1

-- what is still pending to memory blades was pending
still_pending : (kind : LinkKind) (c : ℕ) (taken : List Msg) (old : RackView) (net : NetView) → pending_on old.net kind c ≡ taken ++ pending_on net kind c
    → ChangesOnly (record { kind = kind; number = c }) old.net net → AreAsked old → AreAsked (with_net net old)
still_pending Up c taken old net fifo only asked m = subst (AllByRecursion (AsksAt (place_in old.switch) m)) (sym (other_link (record { kind = Up; number = c }) old.net net only To m refl)) (asked m)
still_pending Down c taken old net fifo only asked m = subst (AllByRecursion (AsksAt (place_in old.switch) m)) (sym (other_link (record { kind = Down; number = c }) old.net net only To m refl)) (asked m)
still_pending From c taken old net fifo only asked m = subst (AllByRecursion (AsksAt (place_in old.switch) m)) (sym (other_link (record { kind = From; number = c }) old.net net only To m refl)) (asked m)
still_pending To c taken old net fifo only asked m = by (m == c) refl where
  by : (b : Bool) → (m == c) ≡ b → AllByRecursion (AsksAt (place_in old.switch) m) (pending_on net To m)
  by true e = subst (λ k. AllByRecursion (AsksAt (place_in old.switch) k) (pending_on net To k)) (sym (eqb-true m c e))
      (all_front (AsksAt (place_in old.switch) c) taken (pending_on net To c) (subst (AllByRecursion (AsksAt (place_in old.switch) c)) fifo (asked c))).1
  by false e = subst (AllByRecursion (AsksAt (place_in old.switch) m)) (sym (other_link (record { kind = To; number = c }) old.net net only To m (flip m c e))) (asked m)

pub with_net-sound : (kind : LinkKind) (c : ℕ) (taken : List Msg) (old : RackView) (net : NetView) → pending_on old.net kind c ≡ taken ++ pending_on net kind c
    → ChangesOnly (record { kind = kind; number = c }) old.net net → IsSound old → IsSound (with_net net old)
with_net-sound kind c taken old net fifo only sound = record {
  blades = sound.blades;
  switch = sound.switch;
  asked = still_pending kind c taken old net fifo only sound.asked;
  room = sound.room;
}

-- ---- a delivery, and any other change of a link

pub delivers : (images : List Image) (name : LinkName) (side : Side) (k : ℕ) (old new : RackView) (noted : List Note)
    → name.number < 8 → IsSafe old → Delivers images name side k old new noted → IsSafe new
delivers images name side k old new noted lt safe given =
    let fifo = given.gives.fifo in
    let before = gave_on name.kind name.number given.taken old given.net safe.flat fifo given.only in
    let after = all_handed images name.kind name.number given.taken (with_net given.net old) new safe.flat noted (subst IsCoherent before safe.coherent)
    (with_net-sound name.kind name.number given.taken old given.net fifo given.only safe.sound) lt
    (asks_taken name.kind name.number given.taken old given.net fifo safe.sound.asked) given.handed in
    record { flat = after.flat; coherent = subst IsCoherent (none_left name.kind name.number (seen new after.flat)) after.coherent; sound = after.sound }

pub net_changes : (name : LinkName) (old : RackView) (net : NetView) → (links_of net name).pending ≡ (links_of old.net name).pending → ChangesOnly name old.net net
    → IsSafe old → IsSafe (with_net net old)
net_changes name old net same only safe =
    let fifo : pending_on old.net name.kind name.number ≡ [] ++ pending_on net name.kind name.number = sym same in
    record {
      flat = safe.flat;
      coherent = subst IsCoherent (none_left name.kind name.number (seen (with_net net old) safe.flat)) (subst IsCoherent (gave_on name.kind name.number [] old net safe.flat fifo only) safe.coherent);
      sound = with_net-sound name.kind name.number [] old net fifo only safe.sound;
    }
