-- A page is given up, or may be written no longer; if it is dirty its image goes back.
use Rattle.std.proofs.Common.{◌≡◌, ◌≢◌, is_some, ◌⊎◌, inl, inr, ℕ, ◌==◌, Bool, true, false, ap, refl, subst, [], ◌∷◌, Option, Some, None, arith, ◌∙◌}
use Rattle.std.specs.Prelude.{if◌then◌else◌}
use Rattle.std.proofs.lemmas.Option.{same_Some}
use Rattle.mind_base.specs.Page.{PageView}
use Rattle.mind_base.specs.declared.commands.Perm.{Perm}
use Rattle.mind_base.specs.declared.commands.Perm.TheVariants.{No, R, Rw}
use Rattle.mind_base.specs.Permission.{allows}
use Rattle.page_cache.specs.PageCache.{same_page, lowered_frame, is_writable}
use Rattle.page_cache.specs.declared.frames.Frame.{Frame}
use Rattle.page_cache.proofs.Callers.{same_page-true, same_page-refl}
use Rattle.wire_msg.specs.declared.msgs.Msg.{Msg}
use Rattle.wire_msg.specs.declared.msgs.Msg.TheVariants.{Back}
use Rattle.coherence.specs.World.{Wanted, World, put_both}
use Rattle.coherence.specs.Counts.{bit, total, none_is, is_get, is_back, is_fill, is_ack}
use Rattle.coherence.specs.Facts.{IsCoherent, IsFrame, AreFrames, AreUps, AreWanted, AreAnswered, AreCalled, AreWritten, is_dirty}
use Rattle.coherence.specs.Moves.{backs, sends, gave_up, lowered}
use Rattle.coherence.proofs.Keys.{put_both-here, put_both-other, both-cases}
use Rattle.coherence.proofs.Lists.{total-append, total-one, total-none, total-none_is, ups-none, ups-one}
use Rattle.coherence.proofs.BladeLinks.{coherent_after, UpsStep, DownsStep, Elsewhere, ups_of_all, downs_of_all_still}

-- what is left of the frame is written in its place
abbrev pub shed : ℕ → PageView → Frame → Option Frame → World → World
shed blade page frame left w = sends blade (backs page frame) (record w { frames = put_both blade page left w.frames })

pub record Shed (c : ℕ) (p : PageView) (frame : Frame) (left : Option Frame) (w : World) : Type 0 where
  pub there : w.frames c p ≡ Some frame
  pub is : IsFrame (w.regions p) (w.asks c p) (w.flat p) (w.perms p) c frame
  pub unwritable : is_writable left ≡ false
  pub placed : is_some (w.places p) ≡ true
  pub rest : (other : Frame) → left ≡ Some other → IsFrame (w.regions p) (w.asks c p) (w.flat p) (w.perms p) c other

-- ---- what goes back

backs-none : (test : Msg → Bool) (p : PageView) (frame : Frame) → test (Back p frame.image) ≡ false → total test (backs p frame) ≡ 0
backs-none test p frame e = by frame.dirty where
  by : (b : Bool) → total test (if b then Back p frame.image ∷ [] else []) ≡ 0
  by true = total-one test (Back p frame.image) ∙ ap bit e
  by false = total-none test

backs-clean : (test : Msg → Bool) (p : PageView) (frame : Frame) → frame.dirty ≡ false → total test (backs p frame) ≡ 0
backs-clean test p frame e = ap (λ b. total test (if b then Back p frame.image ∷ [] else [])) e ∙ total-none test

backs-dirty : (p : PageView) (frame : Frame) → frame.dirty ≡ true → total (is_back p) (backs p frame) ≡ 1
backs-dirty p frame e = ap (λ b. total (is_back p) (if b then Back p frame.image ∷ [] else [])) e
    ∙ total-one (is_back p) (Back p frame.image) ∙ ap bit (same_page-refl p)

-- ---- the facts

sheds-frames : (c : ℕ) (p : PageView) (frame : Frame) (left : Option Frame) (w : World) → Shed c p frame left w → AreFrames w → AreFrames (shed c p frame left w)
sheds-frames c p frame left w s h blade page = both-cases
    (λ b q f. (other : Frame) → f ≡ Some other → IsFrame (w.regions q) (w.asks b q) (w.flat q) (w.perms q) b other)
    c p left w.frames s.rest (λ b q away other e. h b q other e) blade page

sheds-get : (c : ℕ) (p : PageView) (frame : Frame) (left : Option Frame) (w : World) → Shed c p frame left w → AreAnswered w
    → (page : PageView) → (total (is_get page) (w.ups c) ≡ 0) ⊎ ((w.asks c page ≡ w.asks c page) × (none_is (is_back page) (backs p frame) ≡ true))
sheds-get c p frame left w s h page = by (same_page page p) refl frame.dirty refl where
  by : (b : Bool) → same_page page p ≡ b → (d : Bool) → frame.dirty ≡ d
      → (total (is_get page) (w.ups c) ≡ 0) ⊎ ((w.asks c page ≡ w.asks c page) × (none_is (is_back page) (backs p frame) ≡ true))
  by false e d f = inr (refl, total-none_is (is_back page) (backs p frame) (backs-none (is_back page) p frame e))
  by true e false f = inr (refl, total-none_is (is_back page) (backs p frame) (backs-clean (is_back page) p frame f))
  by true e true f =
      let asked : w.asks c page ≡ None = ap (λ q. w.asks c q) (same_page-true page p e) ∙ s.is.alone (s.is.dirty f) in
      inl (grind (arith, h c page, asked))

sheds-unwritable : (c : ℕ) (p : PageView) (frame : Frame) (left : Option Frame) (w : World) → Shed c p frame left w
    → (page : PageView) → is_writable (w.frames c page) ≡ false
    → (is_writable ((shed c p frame left w).frames c page) ≡ false) × (none_is (is_back page) (backs p frame) ≡ true)
sheds-unwritable c p frame left w s page g = (grind (arith, s.unwritable), by (same_page page p) refl frame.dirty refl) where
  by : (b : Bool) → same_page page p ≡ b → (d : Bool) → frame.dirty ≡ d → none_is (is_back page) (backs p frame) ≡ true
  by false e d f = total-none_is (is_back page) (backs p frame) (backs-none (is_back page) p frame e)
  by true e false f = total-none_is (is_back page) (backs p frame) (backs-clean (is_back page) p frame f)
  by true e true f =
      let writable = s.is.dirty f in
      let held : is_writable (w.frames c page) ≡ frame.writable = ap (λ q. is_writable (w.frames c q)) (same_page-true page p e) ∙ ap is_writable s.there in
      absurd (cc)

sheds-gone : (c : ℕ) (p : PageView) (frame : Frame) (left : Option Frame) (w : World) → Shed c p frame left w
    → (page : PageView) → w.frames c page ≡ None → (shed c p frame left w).frames c page ≡ None
sheds-gone c p frame left w s page g = grind (arith, s.there, same_page-true)

sheds-ups : (c : ℕ) (p : PageView) (frame : Frame) (left : Option Frame) (w : World) → Shed c p frame left w → AreAnswered w
    → UpsStep w (shed c p frame left w) c (w.ups c) (backs p frame)
sheds-ups c p frame left w s h = record {
  regions = refl;
  places = refl;
  wants = refl;
  get = sheds-get c p frame left w s h;
  fills = λ page e. e;
  unwritable = λ page e g. sheds-unwritable c p frame left w s page g;
  gone = λ page e g. sheds-gone c p frame left w s page g;
  flat = λ page e g. refl;
}

sheds-unwanted : (c : ℕ) (p : PageView) (frame : Frame) (left : Option Frame) (w : World) → Shed c p frame left w → frame.writable ≡ true → AreWanted w
    → (wanted : Option Wanted) → w.wants c p ≡ wanted → wanted ≡ None
sheds-unwanted c p frame left w s writable h None e = refl
sheds-unwanted c p frame left w s writable h (Some wanted) e = let asked = h c p wanted e in let alone = s.is.alone writable in absurd (cc)

sheds-sent : (c : ℕ) (p : PageView) (frame : Frame) (left : Option Frame) (w : World) → Shed c p frame left w → AreAnswered w → AreWanted w
    → (d : Bool) → frame.dirty ≡ d → AreUps (shed c p frame left w) c (if d then Back p frame.image ∷ [] else [])
sheds-sent c p frame left w s h g false e = ups-none (shed c p frame left w) c
sheds-sent c p frame left w s h g true e = ups-one (shed c p frame left w) c (Back p frame.image) (record {
  writer = s.is.writer (s.is.dirty e);
  newest = s.is.newest;
  placed = s.placed;
  lowered = ap is_writable (put_both-here c p left w.frames) ∙ s.unwritable;
  unwanted = sheds-unwanted c p frame left w s (s.is.dirty e) g (w.wants c p) refl;
  unfilled = total-none_is (is_fill p) (w.downs c) (grind (arith, h c p, s.is.alone (s.is.dirty e)));
})

sheds-downs : (c : ℕ) (p : PageView) (frame : Frame) (left : Option Frame) (w : World) → DownsStep w (shed c p frame left w) c (w.downs c)
sheds-downs c p frame left w = record {
  regions = refl;
  perms = refl;
  asks = λ page. inl refl;
  flat = λ page e. inl refl;
}

sheds-elsewhere : (c : ℕ) (p : PageView) (frame : Frame) (left : Option Frame) (w : World) (blade : ℕ) → (blade == c) ≡ false → Elsewhere w (shed c p frame left w) blade
sheds-elsewhere c p frame left w blade away = record {
  regions = refl;
  places = refl;
  wants = refl;
  perms = refl;
  frames = λ page. put_both-other c p left w.frames blade page away;
  asks = λ page. refl;
  downs = refl;
  flat = λ page e. refl;
}

sheds-answered : (c : ℕ) (p : PageView) (frame : Frame) (left : Option Frame) (w : World) → AreAnswered w → AreAnswered (shed c p frame left w)
sheds-answered c p frame left w h blade page = let none = backs-none (is_get page) p frame refl in grind (arith, h blade page, none, total-append)

sheds-called : (c : ℕ) (p : PageView) (frame : Frame) (left : Option Frame) (w : World) → AreCalled w → AreCalled (shed c p frame left w)
sheds-called c p frame left w h blade number page busy e =
    let none = backs-none (is_ack number) p frame refl in grind (arith, h blade number page busy e, none, total-append)

-- where no image is under way after it, none was before, and the frame was clean
sheds-backs : (c : ℕ) (p : PageView) (frame : Frame) (left : Option Frame) (w : World) (blade : ℕ) (page : PageView)
    → none_is (is_back page) ((shed c p frame left w).ups blade) ≡ true → none_is (is_back page) (w.ups blade) ≡ true
sheds-backs c p frame left w blade page e = grind (arith, e, total-append)

sheds-was_clean : (c : ℕ) (p : PageView) (frame : Frame) (left : Option Frame) (w : World) → none_is (is_back p) ((shed c p frame left w).ups c) ≡ true → frame.dirty ≡ false
sheds-was_clean c p frame left w e = by frame.dirty refl where
  by : (d : Bool) → frame.dirty ≡ d → d ≡ false
  by false f = refl
  by true f = absurd (grind (arith, e, backs-dirty p frame f, total-append))

sheds-clean : (c : ℕ) (p : PageView) (frame : Frame) (left : Option Frame) (w : World) → Shed c p frame left w → (blade : ℕ) (page : PageView)
    → is_dirty ((shed c p frame left w).frames blade page) ≡ false → none_is (is_back page) ((shed c p frame left w).ups blade) ≡ true
    → is_dirty (w.frames blade page) ≡ false
sheds-clean c p frame left w s blade page = both-cases
    (λ b q f. is_dirty f ≡ false → none_is (is_back q) ((shed c p frame left w).ups b) ≡ true → is_dirty (w.frames b q) ≡ false)
    c p left w.frames
    (λ e g. ap is_dirty s.there ∙ sheds-was_clean c p frame left w g)
    (λ b q away e g. e) blade page

sheds-written : (c : ℕ) (p : PageView) (frame : Frame) (left : Option Frame) (w : World) → Shed c p frame left w → AreWritten w → AreWritten (shed c p frame left w)
sheds-written c p frame left w s h page place e g =
    h page place e (λ blade. (sheds-clean c p frame left w s blade page (g blade).0 (g blade).1, sheds-backs c p frame left w blade page (g blade).1))

sheds-keeps : (c : ℕ) (p : PageView) (frame : Frame) (left : Option Frame) (w : World) → Shed c p frame left w → IsCoherent w → IsCoherent (shed c p frame left w)
sheds-keeps c p frame left w s h = let v = shed c p frame left w in coherent_after v.frames v.asks v.ups v.downs v.flat w h (record {
  frames = sheds-frames c p frame left w s h.frames;
  ups = ups_of_all w v c (backs p frame) (sheds-ups c p frame left w s h.answered) (sheds-elsewhere c p frame left w)
      (sheds-sent c p frame left w s h.answered h.wanted frame.dirty refl) h.ups;
  downs = downs_of_all_still w v c (sheds-downs c p frame left w) (sheds-elsewhere c p frame left w) h.downs;
  counted = (sheds-answered c p frame left w h.answered, h.wanted, sheds-called c p frame left w h.called);
  written = sheds-written c p frame left w s h.written;
  fetching = λ blade page e. refl;
})

-- ---- the two moves

-- what is allowed is not nothing
is_allowed : (writable : Bool) (given : Perm) → allows writable given ≡ true → given ≢ No
is_allowed writable No e n = absurd (cc)
is_allowed writable R e n = absurd (cc)
is_allowed writable Rw e n = absurd (cc)

pub gives_up-keeps : (c : ℕ) (p : PageView) (frame : Frame) (w : World) → w.frames c p ≡ Some frame → IsCoherent w → IsCoherent (gave_up c p frame w)
gives_up-keeps c p frame w e h = sheds-keeps c p frame None w (record {
  there = e;
  is = h.frames c p frame e;
  unwritable = refl;
  placed = h.placed.placed p (is_allowed frame.writable (w.perms p) (h.frames c p frame e).readable);
  rest = λ other g. absurd (cc);
}) h

-- what may be written may be read
readable_by : (given : Perm) (writable : Bool) → allows writable given ≡ true → allows false given ≡ true
readable_by No writable e = e
readable_by R writable e = refl
readable_by Rw writable e = refl

lowered-is : (c : ℕ) (p : PageView) (frame : Frame) (w : World) → IsFrame (w.regions p) (w.asks c p) (w.flat p) (w.perms p) c frame
    → IsFrame (w.regions p) (w.asks c p) (w.flat p) (w.perms p) c (lowered_frame frame)
lowered-is c p frame w is = record {
  held = is.held;
  writer = λ e. absurd (cc);
  alone = λ e. absurd (cc);
  dirty = λ e. e;
  newest = is.newest;
  perm = is.perm;
  readable = readable_by (w.perms p) frame.writable is.readable;
}

pub lowers-keeps : (c : ℕ) (p : PageView) (frame : Frame) (w : World) → w.frames c p ≡ Some frame → IsCoherent w → IsCoherent (lowered c p frame w)
lowers-keeps c p frame w e h = let is = h.frames c p frame e in sheds-keeps c p frame (Some (lowered_frame frame)) w (record {
  there = e;
  is = is;
  unwritable = refl;
  placed = h.placed.placed p (is_allowed frame.writable (w.perms p) is.readable);
  rest = λ other g. subst (λ f. IsFrame (w.regions p) (w.asks c p) (w.flat p) (w.perms p) c f) (same_Some _ _ g) (lowered-is c p frame w is);
}) h
