-- The rack after a blade did something, as its coherence sees it.
use Rattle.std.proofs.Common.{◌≡◌, ℕ, ◌==◌, Bool, true, false, ap, refl, List, [], ◌∷◌, ◌++◌, slice_get, slice_set, Option, Some, ◌∙◌, append-nil}
use Rattle.std.specs.Prelude.{if◌then◌else◌, option_and_then}
use Rattle.std.proofs.lemmas.Bool.{eqb-true, eq-eqb, and_from}
use Rattle.mind_base.specs.Page.{PageView}
use Rattle.mind_base.specs.declared.links.LinkKind.{LinkKind}
use Rattle.mind_base.specs.declared.links.LinkKind.TheVariants.{Up, Down, To, From}
use Rattle.mind_base.specs.declared.notes.Note.{Note}
use Rattle.page_cache.specs.PageCache.{frame_of}
use Rattle.page_image.specs.PageImage.{PageImageView}
use Rattle.wire_msg.specs.declared.msgs.Msg.{Msg}
use Rattle.compute_blade.specs.Blade.{BladeView, BladeEffect}
use Rattle.rack_net.specs.Net.{NetView, same_link, kind_number}
use Rattle.coherence.specs.World.{put}
use Rattle.rack_core.specs.BladeMoves.{asked_in, with_seen_blade, HasBlade}
use Rattle.rack_core.specs.Events.{SendsAll, on, BladeActs}
use Rattle.rack_core.specs.Rack.{RackView, with_blade_at, with_net}
use Rattle.rack_core.specs.Seen.{pending_on, frame_at, asked_at, seen, sent_on}
use Rattle.rack_core.proofs.Moves.Sent.{sends_all}
use Rattle.rack_core.proofs.Lists.Lookups.{slice_get-set, slice_get-set_other}

-- ---- links

-- what is sent on one link
pub sent-on_here : (kind : LinkKind) (number : ℕ) (messages : List Msg) → sent_on kind number (on kind number messages) ≡ messages
sent-on_here kind number [] = refl
sent-on_here kind number (message ∷ messages) =
    ap (λ b. if b then message ∷ sent_on kind number (on kind number messages) else sent_on kind number (on kind number messages))
    (and_from _ _ (eq-eqb (kind_number kind) (kind_number kind) refl) (eq-eqb number number refl))
    ∙ ap (λ q. message ∷ q) (sent-on_here kind number messages)

pub sent-on_away : (kind : LinkKind) (number : ℕ) (other : LinkKind) (n : ℕ) (messages : List Msg)
    → same_link (record { kind = other; number = n }) (record { kind = kind; number = number }) ≡ false → sent_on other n (on kind number messages) ≡ []
sent-on_away kind number other n [] e = refl
sent-on_away kind number other n (message ∷ messages) e =
    ap (λ b. if b then message ∷ sent_on other n (on kind number messages) else sent_on other n (on kind number messages)) e
    ∙ sent-on_away kind number other n messages e

-- the links when a blade has sent
pub pending-here : (c : ℕ) (messages : List Msg) (old new : NetView) → SendsAll (on Up c messages) old new → pending_on new Up c ≡ pending_on old Up c ++ messages
pending-here c messages old new h = sends_all Up c (on Up c messages) old new h
    ∙ ap (λ q. pending_on old Up c ++ q) (sent-on_here Up c messages)

pub pending-away : (c : ℕ) (messages : List Msg) (old new : NetView) → SendsAll (on Up c messages) old new → (kind : LinkKind) (n : ℕ)
    → same_link (record { kind = kind; number = n }) (record { kind = Up; number = c }) ≡ false → pending_on new kind n ≡ pending_on old kind n
pending-away c messages old new h kind n away = sends_all kind n (on Up c messages) old new h
    ∙ ap (λ q. pending_on old kind n ++ q) (sent-on_away Up c kind n messages away) ∙ append-nil (pending_on old kind n)

-- ---- the rack

-- the rack has its blades
pub seen-has : (rack : RackView) (flat : PageView → PageImageView) (c : ℕ) (blade : BladeView) → slice_get rack.blades c ≡ Some blade → HasBlade c blade (seen rack flat)
seen-has rack flat c blade e = record {
  frames = λ page. ap (option_and_then (λ b. frame_of page b.cache.entries)) e;
  asks = λ page. ap (option_and_then (λ b. asked_in b.requests page)) e;
}

-- what is read of each blade, when one changed
read-set : {X Y : Type 0} (read : BladeView → Y → Option X) (blades : List BladeView) (c : ℕ) (old new : BladeView) → slice_get blades c ≡ Some old → (n : ℕ) (y : Y)
    → option_and_then (λ b. read b y) (slice_get (slice_set blades c new) n) ≡ put c (read new) (λ m z. option_and_then (λ b. read b z) (slice_get blades m)) n y
read-set {X} {Y} read blades c old new e n y = by (n == c) refl where
  by : (b : Bool) → (n == c) ≡ b → option_and_then (λ b. read b y) (slice_get (slice_set blades c new) n) ≡ (if b then read new else (λ z. option_and_then (λ b. read b z) (slice_get blades n))) y
  by true s = ap (λ m. option_and_then (λ b. read b y) (slice_get (slice_set blades c new) m)) (eqb-true n c s) ∙ ap (option_and_then (λ b. read b y)) (slice_get-set blades c old new e)
  by false s = ap (option_and_then (λ b. read b y)) (slice_get-set_other blades c new n s)

-- the rack after a blade did something and sent
pub seen-acted : (c : ℕ) (blade : BladeView) (e : BladeEffect) (old new : RackView) (noted : List Note) (flat newer : PageView → PageImageView)
    → slice_get old.blades c ≡ Some blade → BladeActs c e old new noted → seen new newer ≡ with_seen_blade c e.blade e.sent newer (seen old flat)
seen-acted c blade e old new noted flat newer is acts = ap (λ rack. seen rack newer) acts.after ∙ same where
  net : NetView
  net = acts.net

  ups : (n : ℕ) → pending_on acts.net Up n ≡ put c (pending_on old.net Up c ++ e.sent) (pending_on old.net Up) n
  ups n = by (n == c) refl where
    by : (b : Bool) → (n == c) ≡ b → pending_on acts.net Up n ≡ (if b then pending_on old.net Up c ++ e.sent else pending_on old.net Up n)
    by true s = ap (pending_on acts.net Up) (eqb-true n c s) ∙ pending-here c e.sent old.net acts.net acts.sent
    by false s = pending-away c e.sent old.net acts.net acts.sent Up n s

  frames : (n : ℕ) (page : PageView) → frame_at (slice_set old.blades c e.blade) n page ≡ put c (λ page. frame_of page e.blade.cache.entries) (frame_at old.blades) n page
  frames n page = read-set (λ b q. frame_of q b.cache.entries) old.blades c blade e.blade is n page

  asks : (n : ℕ) (page : PageView) → asked_at (slice_set old.blades c e.blade) n page ≡ put c (asked_in e.blade.requests) (asked_at old.blades) n page
  asks n page = read-set (λ b q. asked_in b.requests q) old.blades c blade e.blade is n page

  downs : (n : ℕ) → pending_on acts.net Down n ≡ pending_on old.net Down n
  downs n = pending-away c e.sent old.net acts.net acts.sent Down n refl

  tos : (n : ℕ) → pending_on acts.net To n ≡ pending_on old.net To n
  tos n = pending-away c e.sent old.net acts.net acts.sent To n refl

  froms : (n : ℕ) → pending_on acts.net From n ≡ pending_on old.net From n
  froms n = pending-away c e.sent old.net acts.net acts.sent From n refl

  same : seen (with_net acts.net (with_blade_at c e.blade old)) newer ≡ with_seen_blade c e.blade e.sent newer (seen old flat)
  same = λ i. record (seen old newer) {
    frames = λ n page. frames n page i;
    asks = λ n page. asks n page i;
    ups = λ n. ups n i;
    downs = λ n. downs n i;
    tos = λ n. tos n i;
    froms = λ n. froms n i;
  }
