-- A store takes effect in a frame that may be written.
use Rattle.std.proofs.Common.{◌≡◌, inl, inr, ℕ, ◌==◌, ◌&&◌, Bool, true, false, ap, sym, refl, subst, [], Option, Some, None, arith, ◌∙◌}
use Rattle.std.proofs.lemmas.Option.{same_Some}
use Rattle.mind_base.specs.Page.{PageView}
use Rattle.page_cache.specs.PageCache.{same_page}
use Rattle.page_cache.specs.declared.frames.Frame.{Frame}
use Rattle.page_cache.proofs.Callers.{same_page-true}
use Rattle.page_image.specs.PageImage.{PageImageView}
use Rattle.coherence.specs.World.{Wanted, World, put_page}
use Rattle.coherence.specs.Counts.{is_back}
use Rattle.coherence.specs.Facts.{IsCoherent, IsFrame, AreFrames, AreWanted, AreAnswered, AreFetches, AreWritten, is_dirty, is_fetching, may, images_written}
use Rattle.coherence.specs.Moves.{stored}
use Rattle.coherence.proofs.Keys.{put_both-other, put_page-here, put_page-away, both-cases, AtBoth, Here, Away, at_both}
use Rattle.coherence.proofs.Lists.{none_is-nothing}
use Rattle.coherence.proofs.BladeLinks.{coherent_after, UpsStep, DownsStep, Elsewhere, ups_of_all_still, downs_of_all_still, writes_alone}

-- the frame of a store
pub record Stored (c : ℕ) (p : PageView) (frame : Frame) (w : World) : Type 0 where
  pub there : w.frames c p ≡ Some frame
  pub writable : frame.writable ≡ true
  pub is : IsFrame (w.regions p) (w.asks c p) (w.flat p) (w.perms p) c frame

stored-of : (c : ℕ) (p : PageView) (frame : Frame) (w : World) → w.frames c p ≡ Some frame → frame.writable ≡ true → AreFrames w → Stored c p frame w
stored-of c p frame w e writable h = record { there = e; writable = writable; is = h c p frame e }

-- a page that another blade may hold is not the one that is written
flat-elsewhere : (c : ℕ) (p : PageView) (frame : Frame) (image : PageImageView) (w : World) → Stored c p frame w
    → (blade : ℕ) (page : PageView) → (blade == c) ≡ false → may (w.regions page) blade ≡ true → (stored c p frame image w).flat page ≡ w.flat page
flat-elsewhere c p frame image w s blade page away held = by (same_page page p) refl where
  by : (b : Bool) → same_page page p ≡ b → (stored c p frame image w).flat page ≡ w.flat page
  by false e = put_page-away p image w.flat page e
  by true e =
      let here : page ≡ p = same_page-true page p e in
      let alone = writes_alone (w.regions p) c blade (s.is.writer s.writable) (subst (λ q. may (w.regions q) blade ≡ true) here held) in
      absurd (grind (arith, alone, away))

stores-frame : (c : ℕ) (p : PageView) (frame : Frame) (image : PageImageView) (w : World) → Stored c p frame w → (other : Frame)
    → Some (record frame { image = image; dirty = true }) ≡ Some other
    → IsFrame (w.regions p) (w.asks c p) (put_page p image w.flat p) (w.perms p) c other
stores-frame c p frame image w s other e = subst (λ f. IsFrame (w.regions p) (w.asks c p) (put_page p image w.flat p) (w.perms p) c f) (same_Some _ _ e) (record {
  held = s.is.held;
  writer = s.is.writer;
  alone = s.is.alone;
  dirty = λ g. s.writable;
  newest = sym (put_page-here p image w.flat);
  perm = s.is.perm;
  readable = s.is.readable;
})

-- a frame elsewhere is of a page that is not written
stores-other : (c : ℕ) (p : PageView) (frame : Frame) (image : PageImageView) (w : World) → Stored c p frame w
    → (blade : ℕ) (page : PageView) → (blade == c && same_page page p) ≡ false → may (w.regions page) blade ≡ true → (stored c p frame image w).flat page ≡ w.flat page
stores-other c p frame image w s blade page away held = by (blade == c) refl where
  by : (b : Bool) → (blade == c) ≡ b → (stored c p frame image w).flat page ≡ w.flat page
  by true e = put_page-away p image w.flat page (ap (λ b. b && same_page page p) (sym e) ∙ away)
  by false e = flat-elsewhere c p frame image w s blade page e held

stores-frames : (c : ℕ) (p : PageView) (frame : Frame) (image : PageImageView) (w : World) → Stored c p frame w → AreFrames w → AreFrames (stored c p frame image w)
stores-frames c p frame image w s h blade page = both-cases
    (λ b q f. (other : Frame) → f ≡ Some other → IsFrame (w.regions q) (w.asks b q) (put_page p image w.flat q) (w.perms q) b other)
    c p (Some (record frame { image = image; dirty = true })) w.frames
    (stores-frame c p frame image w s)
    (λ b q away other e. let is = h b q other e in
    subst (λ flat. IsFrame (w.regions q) (w.asks b q) flat (w.perms q) b other) (sym (stores-other c p frame image w s b q away is.held)) is)
    blade page

stores-ups : (c : ℕ) (p : PageView) (frame : Frame) (image : PageImageView) (w : World) → Stored c p frame w → UpsStep w (stored c p frame image w) c (w.ups c) []
stores-ups c p frame image w s = record {
  regions = refl;
  places = refl;
  wants = refl;
  get = λ page. inr (refl, none_is-nothing (is_back page));
  fills = λ page e. e;
  unwritable = λ page e g. (grind (arith, s, g, same_page-true), none_is-nothing (is_back page));
  gone = λ page e g. grind (arith, s, g, same_page-true);
  flat = λ page e g. grind (arith, s, g, same_page-true);
}

stores-downs : (c : ℕ) (p : PageView) (frame : Frame) (image : PageImageView) (w : World) → Stored c p frame w → AreAnswered w → DownsStep w (stored c p frame image w) c (w.downs c)
stores-downs c p frame image w s h = record {
  regions = refl;
  perms = refl;
  asks = λ page. inl refl;
  flat = λ page e. grind (arith, s, h c page, same_page-true);
}

stores-elsewhere : (c : ℕ) (p : PageView) (frame : Frame) (image : PageImageView) (w : World) → Stored c p frame w
    → (blade : ℕ) → (blade == c) ≡ false → Elsewhere w (stored c p frame image w) blade
stores-elsewhere c p frame image w s blade away = record {
  regions = refl;
  places = refl;
  wants = refl;
  perms = refl;
  frames = λ page. put_both-other c p (Some (record frame { image = image; dirty = true })) w.frames blade page away;
  asks = λ page. refl;
  downs = refl;
  flat = λ page. flat-elsewhere c p frame image w s blade page away;
}

-- a page that is fetched is not the one that is written
stores-fetched : (c : ℕ) (p : PageView) (frame : Frame) (image : PageImageView) (w : World) → Stored c p frame w → AreFetches w → AreWanted w
    → (blade : ℕ) (page : PageView) (wanted : Option Wanted) → w.wants blade page ≡ wanted → is_fetching wanted ≡ true
    → (stored c p frame image w).flat page ≡ w.flat page
stores-fetched c p frame image w s h g blade page None e f = absurd (cc)
stores-fetched c p frame image w s h g blade page (Some wanted) e f =
    by (at_both c p blade page) where
      by : AtBoth c p blade page → (stored c p frame image w).flat page ≡ w.flat page
      by (Away away) = stores-other c p frame image w s blade page away (h blade page wanted e f).held
      by (Here b q) =
          let asked : w.asks c p ≡ Some wanted.write = ap (λ n. w.asks n p) b ∙ ap (λ o. w.asks blade o) q ∙ g blade page wanted e in
          let alone = s.is.alone s.writable in
          absurd (cc)

stores-fetching : (c : ℕ) (p : PageView) (frame : Frame) (image : PageImageView) (w : World) → Stored c p frame w → AreFetches w → AreWanted w
    → (blade : ℕ) (page : PageView) → is_fetching (w.wants blade page) ≡ true → (stored c p frame image w).flat page ≡ w.flat page
stores-fetching c p frame image w s h g blade page e = stores-fetched c p frame image w s h g blade page (w.wants blade page) refl e

-- the page is dirty, and what is dirty elsewhere stays so
stores-dirty : (c : ℕ) (p : PageView) (frame : Frame) (image : PageImageView) (w : World) (page : PageView) → same_page page p ≡ true
    → is_dirty ((stored c p frame image w).frames c page) ≡ false → ⊥
stores-dirty c p frame image w page e g = grind arith

stores-clean : (c : ℕ) (p : PageView) (frame : Frame) (image : PageImageView) (w : World) (blade : ℕ) (page : PageView) → same_page page p ≡ false
    → is_dirty ((stored c p frame image w).frames blade page) ≡ false → is_dirty (w.frames blade page) ≡ false
stores-clean c p frame image w blade page e g = grind arith

stores-written : (c : ℕ) (p : PageView) (frame : Frame) (image : PageImageView) (w : World) → AreWritten w → AreWritten (stored c p frame image w)
stores-written c p frame image w h page place e g = by (same_page page p) refl where
  by : (b : Bool) → same_page page p ≡ b → images_written (w.tos place.0) (w.images place.0) place.1 ≡ (stored c p frame image w).flat page
  by true here = absurd (stores-dirty c p frame image w page here (g c).0)
  by false away = h page place e (λ blade. (stores-clean c p frame image w blade page away (g blade).0, (g blade).1)) ∙ sym (put_page-away p image w.flat page away)

pub stores-keeps : (c : ℕ) (p : PageView) (frame : Frame) (image : PageImageView) (w : World) → w.frames c p ≡ Some frame → frame.writable ≡ true → IsCoherent w → IsCoherent (stored c p frame image w)
stores-keeps c p frame image w e writable h = let v = stored c p frame image w in let s = stored-of c p frame w e writable h.frames in coherent_after v.frames v.asks v.ups v.downs v.flat w h (record {
  frames = stores-frames c p frame image w s h.frames;
  ups = ups_of_all_still w v c (stores-ups c p frame image w s) (stores-elsewhere c p frame image w s) h.ups;
  downs = downs_of_all_still w v c (stores-downs c p frame image w s h.answered) (stores-elsewhere c p frame image w s) h.downs;
  counted = (h.answered, h.wanted, h.called);
  written = stores-written c p frame image w h.written;
  fetching = stores-fetching c p frame image w s h.fetches h.wanted;
})
