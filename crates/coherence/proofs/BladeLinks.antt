-- The links of all blades, and what is true at every moment, when one blade has done something.
use Rattle.std.proofs.Common.{is_some, ◌≡◌, ◌⊎◌, inl, inr, ℕ, ◌==◌, ◌&&◌, Bool, true, false, ap, sym, refl, subst, List, [], ◌++◌, Option, Some, None, arith, ◌∙◌, append-nil}
use Rattle.std.specs.Prelude.{IfSome}
use Rattle.std.proofs.lemmas.Bool.{eqb-true, and_parts}
use Rattle.mind_base.specs.Page.{PageView}
use Rattle.mind_base.specs.declared.commands.Perm.{Perm}
use Rattle.mind_base.specs.declared.notes.State.{State}
use Rattle.mind_base.specs.declared.notes.State.TheVariants.{I, S, M}
use Rattle.mind_base.specs.Range.{in_range}
use Rattle.mind_base.specs.Permission.{allows}
use Rattle.page_cache.specs.PageCache.{is_writable}
use Rattle.region_directory.specs.declared.entries.Busy.{Busy}
use Rattle.page_cache.proofs.Callers.{same_page-refl}
use Rattle.page_cache.specs.declared.frames.Frame.{Frame}
use Rattle.page_image.specs.PageImage.{PageImageView}
use Rattle.wire_msg.specs.declared.msgs.Msg.{Msg}
use Rattle.wire_msg.specs.declared.msgs.Msg.TheVariants.{Get, Fill, Deny, Back, Inv, Lower, Ack}
use Rattle.coherence.specs.World.{Region, World, put}
use Rattle.coherence.specs.Counts.{total, none_is, is_get, is_back, is_fill, is_deny}
use Rattle.coherence.specs.Facts.{IsCoherent, AreFrames, AreAnswered, AreWanted, AreCalled, AreWritten, is_fetching, IsUp, AreUps, IsDown, AreDowns, IsFill, IsCall, KeepsAtMost, names, WaitsSomewhere, transition, may, may_hold_writable, owns, has_not_answered, stays}
use Rattle.coherence.proofs.Lists.{tos_kept, froms_kept, Among, among-none, none_is-append, none_is-nothing, ups_changed, downs_kept, ups-none}
use Rattle.coherence.proofs.Keys.{put-cases, at_number}

-- who may write a page may hold it
pub may_write-may : (region : Option Region) (blade : ℕ) → may_hold_writable region blade ≡ true → may region blade ≡ true
may_write-may None blade h = h
may_write-may (Some region) blade h = by region.state region.busy h where
  by : (state : State) (busy : Option Busy) → owns state blade && has_not_answered busy blade ≡ true → names state blade && stays busy blade ≡ true
  by I busy e = e
  by (S sharers) busy e = grind arith
  by (M owner) None e = e
  by (M owner) (Some busy) e = grind arith

-- where a blade may write a page, no other may hold it
pub writes_alone : (region : Option Region) (writer holder : ℕ) → may_hold_writable region writer ≡ true → may region holder ≡ true → holder ≡ writer
writes_alone None writer holder h g = grind (arith, h)
writes_alone (Some region) writer holder h g = by region.state (and_parts _ _ h).0 (and_parts _ _ g).0 where
  by : (state : State) → owns state writer ≡ true → names state holder ≡ true → holder ≡ writer
  by I a b = absurd (cc)
  by (S sharers) a b = absurd (cc)
  by (M owner) a b = sym (eqb-true owner holder b) ∙ eqb-true owner writer a

-- ---- messages up

-- what the messages up of a blade speak of, before and after
pub record UpsStep (w v : World) (blade : ℕ) (queue tail : List Msg) : Type 0 where
  pub regions : v.regions ≡ w.regions
  pub places : v.places ≡ w.places
  pub wants : v.wants ≡ w.wants
  -- a request that is under way is still out, and no image goes back behind it
  pub get : (page : PageView) → (total (is_get page) queue ≡ 0) ⊎ ((v.asks blade page ≡ w.asks blade page) × (none_is (is_back page) tail ≡ true))
  -- no page comes that did not come before
  pub fills : (page : PageView) → none_is (is_fill page) (w.downs blade) ≡ true → none_is (is_fill page) (v.downs blade) ≡ true
  -- a page that does not come is not held to write if it was not, and not held if it was not
  pub unwritable : (page : PageView) → none_is (is_fill page) (w.downs blade) ≡ true → is_writable (w.frames blade page) ≡ false
      → (is_writable (v.frames blade page) ≡ false) × (none_is (is_back page) tail ≡ true)
  pub gone : (page : PageView) → none_is (is_fill page) (w.downs blade) ≡ true → w.frames blade page ≡ None → v.frames blade page ≡ None
  -- an image that is on its way back is still the newest
  pub flat : (page : PageView) → may_hold_writable (w.regions page) blade ≡ true → is_writable (w.frames blade page) ≡ false → v.flat page ≡ w.flat page

up-get : (w v : World) (blade : ℕ) (queue tail : List Msg) → UpsStep w v blade queue tail
    → (page : PageView) (write : Bool) (behind : List Msg) → Among (Get page write) queue
    → IsUp w blade (Get page write) behind → IsUp v blade (Get page write) (behind ++ tail)
up-get w v blade queue tail s page write behind among h = by (s.get page) where
  by : (total (is_get page) queue ≡ 0) ⊎ ((v.asks blade page ≡ w.asks blade page) × (none_is (is_back page) tail ≡ true)) → IsUp v blade (Get page write) (behind ++ tail)
  by (inl e) = let away = among-none (Get page write) queue among (is_get page) e in let same = same_page-refl page in absurd (cc)
  by (inr e) = (none_is-append (is_back page) behind tail h.0 e.1, e.0 ∙ h.1)

keeps : (w v : World) (blade : ℕ) (queue tail : List Msg) → UpsStep w v blade queue tail
    → (behind : List Msg) (page : PageView) (busy : Busy)
    → KeepsAtMost (w.frames blade page) (w.downs blade) behind page blade busy → KeepsAtMost (v.frames blade page) (v.downs blade) (behind ++ tail) page blade busy
keeps w v blade queue tail s behind page busy k = record {
  back = none_is-append (is_back page) behind tail k.back kept.1;
  fill = s.fills page k.fill;
  left = left k.left;
} where
  unwritable : (w.frames blade page ≡ None) ⊎ ((is_writable (w.frames blade page) ≡ false) × (names busy.target blade ≡ true)) → is_writable (w.frames blade page) ≡ false
  unwritable (inl e) = ap is_writable e
  unwritable (inr e) = e.0

  kept : (is_writable (v.frames blade page) ≡ false) × (none_is (is_back page) tail ≡ true)
  kept = s.unwritable page k.fill (unwritable k.left)

  left : (w.frames blade page ≡ None) ⊎ ((is_writable (w.frames blade page) ≡ false) × (names busy.target blade ≡ true))
      → (v.frames blade page ≡ None) ⊎ ((is_writable (v.frames blade page) ≡ false) × (names busy.target blade ≡ true))
  left (inl e) = inl (s.gone page k.fill e)
  left (inr e) = inr (kept.0, e.1)

up-back : (w v : World) (blade : ℕ) (queue tail : List Msg) → UpsStep w v blade queue tail
    → (page : PageView) (image : PageImageView) (behind : List Msg)
    → IsUp w blade (Back page image) behind → IsUp v blade (Back page image) (behind ++ tail)
up-back w v blade queue tail s page image behind h = record {
  writer = ap (λ f. may_hold_writable (f page) blade) s.regions ∙ h.writer;
  newest = h.newest ∙ sym (s.flat page h.writer h.lowered);
  placed = ap (λ f. is_some (f page)) s.places ∙ h.placed;
  lowered = (s.unwritable page h.unfilled h.lowered).0;
  unwanted = ap (λ f. f blade page) s.wants ∙ h.unwanted;
  unfilled = s.fills page h.unfilled;
}

up-step : (w v : World) (blade : ℕ) (queue tail : List Msg) → UpsStep w v blade queue tail
    → (m : Msg) (behind : List Msg) → Among m queue → IsUp w blade m behind → IsUp v blade m (behind ++ tail)
up-step w v blade queue tail s (Get page write) behind among h = up-get w v blade queue tail s page write behind among h
up-step w v blade queue tail s (Back page image) behind among h = up-back w v blade queue tail s page image behind h
up-step w v blade queue tail s (Ack number count) behind among h = (
  subst (λ f. WaitsSomewhere f number blade) (sym s.regions) h.0,
  λ page busy e. keeps w v blade queue tail s behind page busy (h.1 page busy (ap (λ f. transition number (f page)) (sym s.regions) ∙ e)),
)
up-step w v blade queue tail s m behind among h = absurd h

-- the messages up of a blade, with what it sends
pub ups_after : (w v : World) (blade : ℕ) (queue tail : List Msg) → UpsStep w v blade queue tail
    → AreUps v blade tail → AreUps w blade queue → AreUps v blade (queue ++ tail)
ups_after w v blade queue tail s = ups_changed w v blade queue tail (up-step w v blade queue tail s)

-- the messages up of a blade that sends none
pub ups_still : (w v : World) (blade : ℕ) (queue : List Msg) → UpsStep w v blade queue [] → AreUps w blade queue → AreUps v blade queue
ups_still w v blade queue s h =
    subst (λ q. AreUps v blade q) (append-nil queue) (ups_after w v blade queue [] s (ups-none v blade) h)

-- ---- messages down

-- what the messages down of a blade speak of, before and after
pub record DownsStep (w v : World) (blade : ℕ) (queue : List Msg) : Type 0 where
  pub regions : v.regions ≡ w.regions
  pub perms : v.perms ≡ w.perms
  -- a request whose answer is under way is still out
  pub asks : (page : PageView) → (v.asks blade page ≡ w.asks blade page) ⊎ ((total (is_fill page) queue ≡ 0) × (total (is_deny page) queue ≡ 0))
  -- the image that comes is still the newest
  pub flat : (page : PageView) → may (w.regions page) blade ≡ true → (v.flat page ≡ w.flat page) ⊎ (total (is_fill page) queue ≡ 0)

down-fill : (w v : World) (blade : ℕ) (queue : List Msg) → DownsStep w v blade queue
    → (page : PageView) (perm : Perm) (writable : Bool) (image : PageImageView) → Among (Fill page perm writable image) queue
    → IsFill (w.regions page) (w.flat page) (w.perms page) (w.asks blade page) blade perm writable image
    → IsFill (v.regions page) (v.flat page) (v.perms page) (v.asks blade page) blade perm writable image
down-fill w v blade queue s page perm writable image among h = by (s.asks page) (s.flat page h.held) where
  none : total (is_fill page) queue ≡ 0 → ⊥
  none e = let away = among-none (Fill page perm writable image) queue among (is_fill page) e in let same = same_page-refl page in (cc)

  by : (v.asks blade page ≡ w.asks blade page) ⊎ ((total (is_fill page) queue ≡ 0) × (total (is_deny page) queue ≡ 0))
      → (v.flat page ≡ w.flat page) ⊎ (total (is_fill page) queue ≡ 0)
      → IsFill (v.regions page) (v.flat page) (v.perms page) (v.asks blade page) blade perm writable image
  by (inr e) f = absurd (none e.0)
  by (inl e) (inr f) = absurd (none f)
  by (inl e) (inl f) = record {
    held = ap (λ r. may (r page) blade) s.regions ∙ h.held;
    writer = λ g. ap (λ r. may_hold_writable (r page) blade) s.regions ∙ h.writer g;
    newest = h.newest ∙ sym f;
    perm = h.perm ∙ ap (λ p. p page) (sym s.perms);
    readable = ap (λ p. allows writable (p page)) s.perms ∙ h.readable;
    asked = e ∙ h.asked;
  }

down-deny : (w v : World) (blade : ℕ) (queue : List Msg) → DownsStep w v blade queue
    → (page : PageView) → Among (Deny page) queue
    → IfSome (w.asks blade page) (λ write. allows write (w.perms page) ≡ false) → IfSome (v.asks blade page) (λ write. allows write (v.perms page) ≡ false)
down-deny w v blade queue s page among h = by (s.asks page) where
  by : (v.asks blade page ≡ w.asks blade page) ⊎ ((total (is_fill page) queue ≡ 0) × (total (is_deny page) queue ≡ 0))
      → IfSome (v.asks blade page) (λ write. allows write (v.perms page) ≡ false)
  by (inl e) = subst (λ p. IfSome (v.asks blade page) (λ write. allows write (p page) ≡ false)) (sym s.perms)
      (subst (λ a. IfSome a (λ write. allows write (w.perms page) ≡ false)) (sym e) h)
  by (inr e) = let away = among-none (Deny page) queue among (is_deny page) e.1 in let same = same_page-refl page in absurd (cc)

down-step : (w v : World) (blade : ℕ) (queue : List Msg) → DownsStep w v blade queue
    → (m : Msg) (behind : List Msg) → Among m queue → IsDown w blade m behind → IsDown v blade m behind
down-step w v blade queue s (Fill page perm writable image) behind among h = down-fill w v blade queue s page perm writable image among h
down-step w v blade queue s (Deny page) behind among h = down-deny w v blade queue s page among h
down-step w v blade queue s (Inv number range asked) behind among h = subst
    (λ r. WaitsSomewhere r number blade
    × ((page : PageView) (busy : Busy) → transition number (r page) ≡ Some busy → IsCall (r page) page (in_range range page) behind))
    (sym s.regions) h
down-step w v blade queue s (Lower number range asked) behind among h = subst
    (λ r. WaitsSomewhere r number blade
    × ((page : PageView) (busy : Busy) → transition number (r page) ≡ Some busy
    → IsCall (r page) page (in_range range page) behind × (names busy.target blade ≡ true)))
    (sym s.regions) h
down-step w v blade queue s m behind among h = absurd h

pub downs_after : (w v : World) (blade : ℕ) (queue : List Msg) → DownsStep w v blade queue → AreDowns w blade queue → AreDowns v blade queue
downs_after w v blade queue s = downs_kept w v blade queue (down-step w v blade queue s)

-- ---- all links

-- what surrounds a blade of which the move is not
pub record Elsewhere (w v : World) (blade : ℕ) : Type 0 where
  pub regions : v.regions ≡ w.regions
  pub places : v.places ≡ w.places
  pub wants : v.wants ≡ w.wants
  pub perms : v.perms ≡ w.perms
  pub frames : (page : PageView) → v.frames blade page ≡ w.frames blade page
  pub asks : (page : PageView) → v.asks blade page ≡ w.asks blade page
  pub downs : v.downs blade ≡ w.downs blade
  pub flat : (page : PageView) → may (w.regions page) blade ≡ true → v.flat page ≡ w.flat page

ups-elsewhere : (w v : World) (blade : ℕ) (queue : List Msg) → Elsewhere w v blade → UpsStep w v blade queue []
ups-elsewhere w v blade queue s = record {
  regions = s.regions;
  places = s.places;
  wants = s.wants;
  get = λ page. inr (s.asks page, none_is-nothing (is_back page));
  fills = λ page e. ap (λ q. none_is (is_fill page) q) s.downs ∙ e;
  unwritable = λ page e g. (ap is_writable (s.frames page) ∙ g, none_is-nothing (is_back page));
  gone = λ page e g. s.frames page ∙ g;
  flat = λ page e g. s.flat page (may_write-may (w.regions page) blade e);
}

downs-elsewhere : (w v : World) (blade : ℕ) (queue : List Msg) → Elsewhere w v blade → DownsStep w v blade queue
downs-elsewhere w v blade queue s = record {
  regions = s.regions;
  perms = s.perms;
  asks = λ page. inl (s.asks page);
  flat = λ page e. inl (s.flat page e);
}

-- the messages up of all blades, when one has sent some, or has done something else
pub ups_of_all : (w v : World) (c : ℕ) (tail : List Msg) → UpsStep w v c (w.ups c) tail → ((blade : ℕ) → (blade == c) ≡ false → Elsewhere w v blade)
    → AreUps v c tail → ((blade : ℕ) → AreUps w blade (w.ups blade)) → (blade : ℕ) → AreUps v blade (put c (w.ups c ++ tail) w.ups blade)
ups_of_all w v c tail s others sent h = put-cases (λ blade queue. AreUps v blade queue) c (w.ups c ++ tail) w.ups
    (ups_after w v c (w.ups c) tail s sent (h c))
    (λ blade away. ups_still w v blade (w.ups blade) (ups-elsewhere w v blade (w.ups blade) (others blade away)) (h blade))

pub ups_of_all_still : (w v : World) (c : ℕ) → UpsStep w v c (w.ups c) [] → ((blade : ℕ) → (blade == c) ≡ false → Elsewhere w v blade)
    → ((blade : ℕ) → AreUps w blade (w.ups blade)) → (blade : ℕ) → AreUps v blade (w.ups blade)
ups_of_all_still w v c s others h = at_number (λ blade. AreUps v blade (w.ups blade)) c
    (ups_still w v c (w.ups c) s (h c))
    (λ blade away. ups_still w v blade (w.ups blade) (ups-elsewhere w v blade (w.ups blade) (others blade away)) (h blade))

-- the messages down to all blades, when one has taken its first, or has done something else
pub downs_of_all : (w v : World) (c : ℕ) (behind : List Msg) → DownsStep w v c behind → ((blade : ℕ) → (blade == c) ≡ false → Elsewhere w v blade)
    → AreDowns w c behind → ((blade : ℕ) → AreDowns w blade (w.downs blade)) → (blade : ℕ) → AreDowns v blade (put c behind w.downs blade)
downs_of_all w v c behind s others left h = put-cases (λ blade queue. AreDowns v blade queue) c behind w.downs
    (downs_after w v c behind s left)
    (λ blade away. downs_after w v blade (w.downs blade) (downs-elsewhere w v blade (w.downs blade) (others blade away)) (h blade))

pub downs_of_all_still : (w v : World) (c : ℕ) → DownsStep w v c (w.downs c) → ((blade : ℕ) → (blade == c) ≡ false → Elsewhere w v blade)
    → ((blade : ℕ) → AreDowns w blade (w.downs blade)) → (blade : ℕ) → AreDowns v blade (w.downs blade)
downs_of_all_still w v c s others h = at_number (λ blade. AreDowns v blade (w.downs blade)) c
    (downs_after w v c (w.downs c) s (h c))
    (λ blade away. downs_after w v blade (w.downs blade) (downs-elsewhere w v blade (w.downs blade) (others blade away)) (h blade))

-- ---- all facts

-- what a move of a blade has to keep: what it does not touch stays true
pub record IsKept (w v : World) : Type 0 where
  pub frames : AreFrames v
  pub ups : (blade : ℕ) → AreUps v blade (v.ups blade)
  pub downs : (blade : ℕ) → AreDowns v blade (v.downs blade)
  pub counted : AreAnswered v × AreWanted v × AreCalled v
  pub written : AreWritten v
  -- a page that is fetched is not written
  pub fetching : (blade : ℕ) (page : PageView) → is_fetching (w.wants blade page) ≡ true → v.flat page ≡ w.flat page

-- the rack with other frames, requests that are out, links of blades, and newest images
abbrev pub blades_changed : (ℕ → PageView → Option Frame) → (ℕ → PageView → Option Bool) → (ℕ → List Msg) → (ℕ → List Msg) → (PageView → PageImageView) → World → World
blades_changed frames asks ups downs flat w = record w { frames = frames; asks = asks; ups = ups; downs = downs; flat = flat }

pub coherent_after : (frames : ℕ → PageView → Option Frame) (asks : ℕ → PageView → Option Bool) (ups downs : ℕ → List Msg) (flat : PageView → PageImageView) (w : World)
    → IsCoherent w → IsKept w (blades_changed frames asks ups downs flat w) → IsCoherent (blades_changed frames asks ups downs flat w)
coherent_after frames asks ups downs flat w h k = let v = blades_changed frames asks ups downs flat w in record {
  frames = k.frames;
  ups = k.ups;
  downs = k.downs;
  answered = k.counted.0;
  wanted = k.counted.1;
  fetched = h.fetched;
  called = k.counted.2;
  fetches = h.fetches;
  numbered = h.numbered;
  blocks = h.blocks;
  targets = h.targets;
  tos = λ memory. tos_kept w v memory (w.images memory) (w.tos memory) refl refl k.fetching (h.tos memory);
  written = k.written;
  froms = λ memory. froms_kept w v memory (w.froms memory) refl refl k.fetching (h.froms memory);
  placed = record { apart = h.placed.apart; placed = h.placed.placed };
}
