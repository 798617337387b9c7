-- A blade asks for a page.
use Rattle.std.proofs.Common.{◌≡◌, inl, ℕ, ◌==◌, Bool, false, refl, [], ◌∷◌, Some, arith}
use Rattle.mind_base.specs.Page.{PageView}
use Rattle.page_cache.proofs.Callers.{same_page-true}
use Rattle.wire_msg.specs.declared.msgs.Msg.TheVariants.{Get}
use Rattle.coherence.specs.World.{World}
use Rattle.coherence.specs.Counts.{is_back}
use Rattle.coherence.specs.Facts.{IsCoherent, AreFrames, AreWanted, AreAnswered, AreCalled, AreWritten}
use Rattle.coherence.specs.Moves.{MayAsk, asked}
use Rattle.coherence.proofs.Keys.{put_both-here, put_both-other}
use Rattle.coherence.proofs.Lists.{total-append, total-one, none_is-nothing, total-none_is, ups-one}
use Rattle.coherence.proofs.BladeLinks.{coherent_after, UpsStep, DownsStep, Elsewhere, ups_of_all, downs_of_all_still}

asks-frames : (c : ℕ) (p : PageView) (write : Bool) (w : World) → MayAsk w c p → AreFrames w → AreFrames (asked c p write w)
asks-frames c p write w may h blade page frame e = grind (arith, h blade page frame e, same_page-true)

asks-wanted : (c : ℕ) (p : PageView) (write : Bool) (w : World) → MayAsk w c p → AreWanted w → AreWanted (asked c p write w)
asks-wanted c p write w may h blade page wanted e = grind (arith, h blade page wanted e, same_page-true)

asks-answered : (c : ℕ) (p : PageView) (write : Bool) (w : World) → MayAsk w c p → AreAnswered w → AreAnswered (asked c p write w)
asks-answered c p write w may h blade page = grind (arith, h blade page, same_page-true, total-append, total-one)

asks-called : (c : ℕ) (p : PageView) (write : Bool) (w : World) → AreCalled w → AreCalled (asked c p write w)
asks-called c p write w h blade number page busy e = grind (arith, h blade number page busy e, total-append, total-one)

asks-written : (c : ℕ) (p : PageView) (write : Bool) (w : World) → AreWritten w → AreWritten (asked c p write w)
asks-written c p write w h page place e g = h page place e (λ blade. grind (arith, g blade, total-append, total-one))

asks-ups : (c : ℕ) (p : PageView) (write : Bool) (w : World) → MayAsk w c p → AreAnswered w → UpsStep w (asked c p write w) c (w.ups c) (Get p write ∷ [])
asks-ups c p write w may h = record {
  regions = refl;
  places = refl;
  wants = refl;
  get = λ page. grind (arith, h c page, may, same_page-true, total-one, total-none_is);
  fills = λ page e. e;
  unwritable = λ page e g. (g, grind (arith, total-one, total-none_is));
  gone = λ page e g. g;
  flat = λ page e g. refl;
}

asks-downs : (c : ℕ) (p : PageView) (write : Bool) (w : World) → MayAsk w c p → AreAnswered w → DownsStep w (asked c p write w) c (w.downs c)
asks-downs c p write w may h = record {
  regions = refl;
  perms = refl;
  asks = λ page. grind (arith, h c page, may, same_page-true);
  flat = λ page e. inl refl;
}

asks-elsewhere : (c : ℕ) (p : PageView) (write : Bool) (w : World) (blade : ℕ) → (blade == c) ≡ false → Elsewhere w (asked c p write w) blade
asks-elsewhere c p write w blade away = record {
  regions = refl;
  places = refl;
  wants = refl;
  perms = refl;
  frames = λ page. refl;
  asks = λ page. put_both-other c p (Some write) w.asks blade page away;
  downs = refl;
  flat = λ page e. refl;
}

pub asks-keeps : (c : ℕ) (p : PageView) (write : Bool) (w : World) → MayAsk w c p → IsCoherent w → IsCoherent (asked c p write w)
asks-keeps c p write w may h = let v = asked c p write w in coherent_after v.frames v.asks v.ups v.downs v.flat w h (record {
  frames = asks-frames c p write w may h.frames;
  ups = ups_of_all w v c (Get p write ∷ []) (asks-ups c p write w may h.answered) (asks-elsewhere c p write w)
      (ups-one v c (Get p write) (none_is-nothing (is_back p), put_both-here c p (Some write) w.asks)) h.ups;
  downs = downs_of_all_still w v c (asks-downs c p write w may h.answered) (asks-elsewhere c p write w) h.downs;
  counted = (asks-answered c p write w may h.answered, asks-wanted c p write w may h.wanted, asks-called c p write w h.called);
  written = asks-written c p write w h.written;
  fetching = λ blade page e. refl;
})
