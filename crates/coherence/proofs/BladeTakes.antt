-- A page that comes is taken, or that it is denied, and its request ends.
use Rattle.std.proofs.Common.{◌≡◌, ◌⊎◌, inl, inr, ℕ, ◌+◌, ◌==◌, ◌&&◌, Bool, true, false, ap, sym, refl, subst, List, [], ◌∷◌, Option, Some, None, arith, ◌∙◌}
use Rattle.std.specs.Prelude.{is_some, if◌then◌else◌}
use Rattle.std.proofs.lemmas.Bool.{eqb-true}
use Rattle.std.proofs.lemmas.Option.{same_Some}
use Rattle.mind_base.specs.Page.{PageView}
use Rattle.mind_base.specs.declared.commands.Perm.{Perm}
use Rattle.page_cache.specs.PageCache.{same_page, is_writable}
use Rattle.page_cache.specs.declared.frames.Frame.{Frame}
use Rattle.page_cache.proofs.Callers.{same_page-refl}
use Rattle.page_image.specs.PageImage.{PageImageView}
use Rattle.wire_msg.specs.declared.msgs.Msg.{Msg}
use Rattle.wire_msg.specs.declared.msgs.Msg.TheVariants.{Fill, Deny}
use Rattle.coherence.specs.World.{Wanted, World, put, put_both}
use Rattle.coherence.specs.Counts.{bit, total, none_is, is_get, is_back, is_fill, is_deny, is_call}
use Rattle.coherence.specs.Facts.{IsCoherent, IsFrame, IsFill, AreFrames, AreDowns, AreWanted, AreAnswered, AreCalled, AreWritten, is_dirty}
use Rattle.coherence.specs.Moves.{took, filled, was_denied}
use Rattle.coherence.proofs.Keys.{put_both-here, put_both-other, put_both-away, put-here, put-other, both-cases, at_both, AtBoth, Here, Away}
use Rattle.coherence.proofs.Lists.{bit-zero, total-cons, none_is-total, total-none_is, none_is-nothing, downs-cons}
use Rattle.coherence.proofs.BladeLinks.{coherent_after, UpsStep, DownsStep, Elsewhere, ups_of_all_still, downs_of_all}

-- the request is out no longer, and the frames are as given
abbrev pub taken : ℕ → PageView → List Msg → (ℕ → PageView → Option Frame) → World → World
taken blade page behind frames w = took blade behind (record w { frames = frames; asks = put_both blade page None w.asks })

-- the message that answers the request, and the frames after it
pub record Taken (c : ℕ) (p : PageView) (m : Msg) (behind : List Msg) (frames : ℕ → PageView → Option Frame) (w : World) : Type 0 where
  pub downs : (test : Msg → Bool) → total test (w.downs c) ≡ bit (test m) + total test behind
  pub answers : bit (is_fill p m) + bit (is_deny p m) ≡ 1
  pub fill : (page : PageView) → same_page page p ≡ false → is_fill page m ≡ false
  pub deny : (page : PageView) → same_page page p ≡ false → is_deny page m ≡ false
  pub call : (number : ℕ) → is_call number m ≡ false
  pub left : AreDowns w c behind
  pub other : (blade : ℕ) (page : PageView) → (blade == c && same_page page p) ≡ false → frames blade page ≡ w.frames blade page
  pub kept : is_fill p m ≡ false → frames c p ≡ w.frames c p
  pub is : (frame : Frame) → frames c p ≡ Some frame → IsFrame (w.regions p) None (w.flat p) (w.perms p) c frame

-- nothing else answers the request
pub record Alone (c : ℕ) (p : PageView) (behind : List Msg) (w : World) : Type 0 where
  pub asked : is_some (w.asks c p) ≡ true
  pub gets : total (is_get p) (w.ups c) ≡ 0
  pub unwanted : is_some (w.wants c p) ≡ false
  pub fills : total (is_fill p) behind ≡ 0
  pub denies : total (is_deny p) behind ≡ 0

by_count : (asked wanted : Bool) (gets fills denies fill deny : ℕ) → fill + deny ≡ 1
    → gets + bit wanted + (fill + fills) + (deny + denies) ≡ bit asked → (asked ≡ true) × (gets ≡ 0) × (wanted ≡ false) × (fills ≡ 0) × (denies ≡ 0)
by_count true true gets fills denies fill deny e g = absurd (omega arith)
by_count true false gets fills denies fill deny e g = (refl, omega arith, refl, omega arith, omega arith)
by_count false wanted gets fills denies fill deny e g = absurd (omega arith)

alone_of : (c : ℕ) (p : PageView) (m : Msg) (behind : List Msg) (frames : ℕ → PageView → Option Frame) (w : World) → Taken c p m behind frames w → AreAnswered w → Alone c p behind w
alone_of c p m behind frames w s h =
    let parts = by_count (is_some (w.asks c p)) (is_some (w.wants c p)) (total (is_get p) (w.ups c)) (total (is_fill p) behind) (total (is_deny p) behind)
    (bit (is_fill p m)) (bit (is_deny p m)) s.answers
    (omega (arith, h c p, s.downs (is_fill p), s.downs (is_deny p))) in
    record { asked = parts.0; gets = parts.1; unwanted = parts.2; fills = parts.3; denies = parts.4 }

-- ---- the facts

takes-frames : (c : ℕ) (p : PageView) (m : Msg) (behind : List Msg) (frames : ℕ → PageView → Option Frame) (w : World) → Taken c p m behind frames w
    → AreFrames w → AreFrames (taken c p behind frames w)
takes-frames c p m behind frames w s h blade page = both-cases
    (λ b q a. (frame : Frame) → frames b q ≡ Some frame → IsFrame (w.regions q) a (w.flat q) (w.perms q) b frame)
    c p None w.asks s.is (λ b q away frame e. h b q frame (sym (s.other b q away) ∙ e)) blade page

takes-ups : (c : ℕ) (p : PageView) (m : Msg) (behind : List Msg) (frames : ℕ → PageView → Option Frame) (w : World) → Taken c p m behind frames w
    → Alone c p behind w → UpsStep w (taken c p behind frames w) c (w.ups c) []
takes-ups c p m behind frames w s a = record {
  regions = refl;
  places = refl;
  wants = refl;
  get = λ page. get page (at_both c p c page);
  fills = λ page e. ap (λ q. none_is (is_fill page) q) (put-here c behind w.downs) ∙ total-none_is (is_fill page) behind (nothing page e).1;
  unwritable = λ page e g. (ap is_writable (frame page e) ∙ g, none_is-nothing (is_back page));
  gone = λ page e g. frame page e ∙ g;
  flat = λ page e g. refl;
} where
  get : (page : PageView) → AtBoth c p c page
      → (total (is_get page) (w.ups c) ≡ 0) ⊎ ((put_both c p None w.asks c page ≡ w.asks c page) × (none_is (is_back page) [] ≡ true))
  get page (Away away) = inr (put_both-away c p None w.asks c page away, none_is-nothing (is_back page))
  get page (Here b q) = inl (subst (λ r. total (is_get r) (w.ups c) ≡ 0) q a.gets)

  nothing : (page : PageView) → none_is (is_fill page) (w.downs c) ≡ true → (bit (is_fill page m) ≡ 0) × (total (is_fill page) behind ≡ 0)
  nothing page e =
      let none = none_is-total (is_fill page) (w.downs c) e in
      let parts = s.downs (is_fill page) in
      (omega (arith, none, parts), omega (arith, none, parts))

  at : (page : PageView) → none_is (is_fill page) (w.downs c) ≡ true → AtBoth c p c page → frames c page ≡ w.frames c page
  at page e (Away away) = s.other c page away
  at page e (Here b q) =
      subst (λ r. frames c r ≡ w.frames c r) q
      (s.kept (bit-zero (is_fill p m) (subst (λ r. bit (is_fill r m) ≡ 0) (sym q) (nothing page e).0)))

  frame : (page : PageView) → none_is (is_fill page) (w.downs c) ≡ true → frames c page ≡ w.frames c page
  frame page e = at page e (at_both c p c page)

takes-downs : (c : ℕ) (p : PageView) (m : Msg) (behind : List Msg) (frames : ℕ → PageView → Option Frame) (w : World)
    → Alone c p behind w → DownsStep w (taken c p behind frames w) c behind
takes-downs c p m behind frames w a = record {
  regions = refl;
  perms = refl;
  asks = λ page. asks page (at_both c p c page);
  flat = λ page e. inl refl;
} where
  asks : (page : PageView) → AtBoth c p c page
      → (put_both c p None w.asks c page ≡ w.asks c page) ⊎ ((total (is_fill page) behind ≡ 0) × (total (is_deny page) behind ≡ 0))
  asks page (Away away) = inl (put_both-away c p None w.asks c page away)
  asks page (Here b q) = inr (subst (λ r. (total (is_fill r) behind ≡ 0) × (total (is_deny r) behind ≡ 0)) q (a.fills, a.denies))

takes-elsewhere : (c : ℕ) (p : PageView) (m : Msg) (behind : List Msg) (frames : ℕ → PageView → Option Frame) (w : World) → Taken c p m behind frames w
    → (blade : ℕ) → (blade == c) ≡ false → Elsewhere w (taken c p behind frames w) blade
takes-elsewhere c p m behind frames w s blade away = record {
  regions = refl;
  places = refl;
  wants = refl;
  perms = refl;
  frames = λ page. s.other blade page (ap (λ b. b && same_page page p) away);
  asks = λ page. put_both-other c p None w.asks blade page away;
  downs = put-other c behind w.downs blade away;
  flat = λ page e. refl;
}

takes-answered : (c : ℕ) (p : PageView) (m : Msg) (behind : List Msg) (frames : ℕ → PageView → Option Frame) (w : World) → Taken c p m behind frames w
    → Alone c p behind w → AreAnswered w → AreAnswered (taken c p behind frames w)
takes-answered c p m behind frames w s a h = both-cases
    (λ b q asked. total (is_get q) (w.ups b) + bit (is_some (w.wants b q))
    + total (is_fill q) (put c behind w.downs b) + total (is_deny q) (put c behind w.downs b) ≡ bit (is_some asked))
    c p None w.asks
    (omega (arith, a.gets, ap bit a.unwanted, here (is_fill p) ∙ a.fills, here (is_deny p) ∙ a.denies))
    (λ b q away. by b q away (b == c) refl) where
      here : (test : Msg → Bool) → total test (put c behind w.downs c) ≡ total test behind
      here test = ap (λ l. total test l) (put-here c behind w.downs)

      by : (b : ℕ) (q : PageView) → (b == c && same_page q p) ≡ false → (t : Bool) → (b == c) ≡ t → total (is_get q) (w.ups b) + bit (is_some (w.wants b q))
          + total (is_fill q) (put c behind w.downs b) + total (is_deny q) (put c behind w.downs b) ≡ bit (is_some (w.asks b q))
      by b q away false e = subst
          (λ l. total (is_get q) (w.ups b) + bit (is_some (w.wants b q)) + total (is_fill q) l + total (is_deny q) l ≡ bit (is_some (w.asks b q)))
          (sym (put-other c behind w.downs b e)) (h b q)
      by b q away true e =
          let apart : same_page q p ≡ false = ap (λ t. t && same_page q p) (sym e) ∙ away in
          let same : put c behind w.downs b ≡ behind = ap (λ t. if t then behind else w.downs b) e in
          let own : w.downs b ≡ w.downs c = ap w.downs (eqb-true b c e) in
          omega (
            arith,
            h b q,
            ap (total (is_fill q)) same,
            ap (total (is_deny q)) same,
            ap (total (is_fill q)) own,
            ap (total (is_deny q)) own,
            s.downs (is_fill q),
            s.downs (is_deny q),
            ap bit (s.fill q apart),
            ap bit (s.deny q apart),
          )

takes-wanted : (c : ℕ) (p : PageView) (m : Msg) (behind : List Msg) (frames : ℕ → PageView → Option Frame) (w : World)
    → Alone c p behind w → AreWanted w → AreWanted (taken c p behind frames w)
takes-wanted c p m behind frames w a h blade page = both-cases
    (λ b q asked. (wanted : Wanted) → w.wants b q ≡ Some wanted → asked ≡ Some wanted.write)
    c p None w.asks (λ wanted e. let none = a.unwanted in absurd (cc)) (λ b q away wanted e. h b q wanted e) blade page

takes-called : (c : ℕ) (p : PageView) (m : Msg) (behind : List Msg) (frames : ℕ → PageView → Option Frame) (w : World) → Taken c p m behind frames w
    → AreCalled w → AreCalled (taken c p behind frames w)
takes-called c p m behind frames w s h blade number page busy e = grind (arith, h blade number page busy e, s.downs (is_call number), s.call number)

-- a page that is asked for was not dirty
was_clean : (c : ℕ) (p : PageView) (w : World) → is_some (w.asks c p) ≡ true → AreFrames w → (held : Option Frame) → w.frames c p ≡ held → is_dirty held ≡ false
was_clean c p w asked h None e = refl
was_clean c p w asked h (Some frame) e = by frame.dirty refl where
  by : (d : Bool) → frame.dirty ≡ d → d ≡ false
  by false f = refl
  by true f = let is = h c p frame e in let none = is.alone (is.dirty f) in absurd (cc)

takes-written : (c : ℕ) (p : PageView) (m : Msg) (behind : List Msg) (frames : ℕ → PageView → Option Frame) (w : World) → Taken c p m behind frames w
    → Alone c p behind w → AreFrames w → AreWritten w → AreWritten (taken c p behind frames w)
takes-written c p m behind frames w s a f h page place e g = h page place e (λ blade. (clean blade (at_both c p blade page), (g blade).1)) where
  clean : (blade : ℕ) → AtBoth c p blade page → is_dirty (w.frames blade page) ≡ false
  clean blade (Away away) = ap is_dirty (sym (s.other blade page away)) ∙ (g blade).0
  clean blade (Here b q) =
      subst (λ n. is_dirty (w.frames n page) ≡ false) b
      (subst (λ r. is_dirty (w.frames c r) ≡ false) q (was_clean c p w a.asked f (w.frames c p) refl))

takes-keeps : (c : ℕ) (p : PageView) (m : Msg) (behind : List Msg) (frames : ℕ → PageView → Option Frame) (w : World) → Taken c p m behind frames w
    → IsCoherent w → IsCoherent (taken c p behind frames w)
takes-keeps c p m behind frames w s h =
    let v = taken c p behind frames w in
    let a = alone_of c p m behind frames w s h.answered in coherent_after v.frames v.asks v.ups v.downs v.flat w h (record {
      frames = takes-frames c p m behind frames w s h.frames;
      ups = ups_of_all_still w v c (takes-ups c p m behind frames w s a) (takes-elsewhere c p m behind frames w s) h.ups;
      downs = downs_of_all w v c behind (takes-downs c p m behind frames w a) (takes-elsewhere c p m behind frames w s) s.left h.downs;
      counted = (takes-answered c p m behind frames w s a h.answered, takes-wanted c p m behind frames w a h.wanted, takes-called c p m behind frames w s h.called);
      written = takes-written c p m behind frames w s a h.frames h.written;
      fetching = λ blade page e. refl;
    })

-- ---- the two moves

-- the frame that a page which comes is put in
abbrev pub frame_of : Perm → Bool → PageImageView → Frame
frame_of perm writable image = record { image = image; writable = writable; dirty = false; perm = perm }

fill-is : (c : ℕ) (p : PageView) (perm : Perm) (writable : Bool) (image : PageImageView) (w : World)
    → IsFill (w.regions p) (w.flat p) (w.perms p) (w.asks c p) c perm writable image
    → IsFrame (w.regions p) None (w.flat p) (w.perms p) c (frame_of perm writable image)
fill-is c p perm writable image w h = record {
  held = h.held;
  writer = h.writer;
  alone = λ e. refl;
  dirty = λ e. absurd (cc);
  newest = h.newest;
  perm = h.perm;
  readable = h.readable;
}

pub takes_fill-keeps : (c : ℕ) (p : PageView) (perm : Perm) (writable : Bool) (image : PageImageView) (behind : List Msg) (w : World)
    → w.downs c ≡ Fill p perm writable image ∷ behind → IsCoherent w → IsCoherent (filled c p perm writable image behind w)
takes_fill-keeps c p perm writable image behind w e h =
    let frame = frame_of perm writable image in
    let frames = put_both c p (Some frame) w.frames in
    let m = Fill p perm writable image in
    let parts = downs-cons w c m behind (subst (λ q. AreDowns w c q) e (h.downs c)) in
    takes-keeps c p m behind frames w (record {
      downs = λ test. ap (total test) e ∙ total-cons test m behind;
      answers = ap (λ b. bit b + 0) (same_page-refl p);
      fill = λ page apart. apart;
      deny = λ page apart. refl;
      call = λ number. refl;
      left = parts.1;
      other = λ blade page away. put_both-away c p (Some frame) w.frames blade page away;
      kept = λ apart. let same = same_page-refl p in absurd (cc);
      is = λ other g. subst (λ f. IsFrame (w.regions p) None (w.flat p) (w.perms p) c f)
          (same_Some _ _ (sym (put_both-here c p (Some frame) w.frames) ∙ g)) (fill-is c p perm writable image w parts.0);
    }) h

held-is : (c : ℕ) (p : PageView) (w : World) (frame : Frame) → IsFrame (w.regions p) (w.asks c p) (w.flat p) (w.perms p) c frame
    → IsFrame (w.regions p) None (w.flat p) (w.perms p) c frame
held-is c p w frame is = record {
  held = is.held;
  writer = is.writer;
  alone = λ e. refl;
  dirty = is.dirty;
  newest = is.newest;
  perm = is.perm;
  readable = is.readable;
}

pub takes_deny-keeps : (c : ℕ) (p : PageView) (behind : List Msg) (w : World)
    → w.downs c ≡ Deny p ∷ behind → IsCoherent w → IsCoherent (was_denied c p behind w)
takes_deny-keeps c p behind w e h =
    let m = Deny p in
    takes-keeps c p m behind w.frames w (record {
      downs = λ test. ap (total test) e ∙ total-cons test m behind;
      answers = ap (λ b. 0 + bit b) (same_page-refl p);
      fill = λ page apart. refl;
      deny = λ page apart. apart;
      call = λ number. refl;
      left = (downs-cons w c m behind (subst (λ q. AreDowns w c q) e (h.downs c))).1;
      other = λ blade page away. refl;
      kept = λ apart. refl;
      is = λ frame g. held-is c p w frame (h.frames c p frame g);
    }) h
