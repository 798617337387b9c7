-- An invalidation or a lowering is answered.
use Rattle.std.proofs.Common.{◌≡◌, ◌⊎◌, inl, inr, ℕ, ◌+◌, ◌==◌, Bool, true, false, ap, sym, refl, subst, List, [], ◌∷◌, Option, Some, None, arith, ◌∙◌}
use Rattle.mind_base.specs.Page.{PageView}
use Rattle.mind_base.specs.Range.{RangeView}
use Rattle.page_cache.specs.PageCache.{is_writable}
use Rattle.region_directory.specs.declared.entries.Busy.{Busy}
use Rattle.wire_msg.specs.declared.msgs.Msg.{Msg}
use Rattle.wire_msg.specs.declared.msgs.Msg.TheVariants.{Inv, Lower, Ack}
use Rattle.coherence.specs.World.{World}
use Rattle.coherence.specs.Counts.{bit, total, none_is, is_back, is_fill, is_deny, is_call}
use Rattle.coherence.specs.Facts.{IsCoherent, IsUp, AreDowns, AreAnswered, AreCalled, AreWritten, WaitsSomewhere, transition, names}
use Rattle.coherence.specs.Moves.{answers, HoldsNone, HoldsNoneWritable}
use Rattle.coherence.proofs.Keys.{put-here, put-other}
use Rattle.coherence.proofs.Lists.{total-append, total-one, total-cons, none_is-total, total-none_is, none_is-nothing, downs-cons, ups-one}
use Rattle.coherence.proofs.BladeLinks.{coherent_after, UpsStep, DownsStep, Elsewhere, ups_of_all, downs_of_all}

-- a call that is answered, and that its blade does as it was told
pub record Answered (c number : ℕ) (behind : List Msg) (w : World) : Type 0 where
  pub calls : (other : ℕ) → total (is_call other) (w.downs c) ≡ bit (other == number) + total (is_call other) behind
  pub fills : (page : PageView) → total (is_fill page) (w.downs c) ≡ total (is_fill page) behind
  pub denies : (page : PageView) → total (is_deny page) (w.downs c) ≡ total (is_deny page) behind
  pub rest : AreDowns w c behind
  pub waits : WaitsSomewhere w.regions number c
  pub unfilled : (page : PageView) (busy : Busy) → transition number (w.regions page) ≡ Some busy → none_is (is_fill page) behind ≡ true
  pub left : (page : PageView) (busy : Busy) → transition number (w.regions page) ≡ Some busy
      → (w.frames c page ≡ None) ⊎ ((is_writable (w.frames c page) ≡ false) × (names busy.target c ≡ true))

answers-ups : (c number count : ℕ) (behind : List Msg) (w : World) → Answered c number behind w
    → UpsStep w (answers c number count behind w) c (w.ups c) (Ack number count ∷ [])
answers-ups c number count behind w s = record {
  regions = refl;
  places = refl;
  wants = refl;
  get = λ page. inr (refl, none page);
  fills = λ page e. ap (λ l. none_is (is_fill page) l) (put-here c behind w.downs)
      ∙ total-none_is (is_fill page) behind (sym (s.fills page) ∙ none_is-total (is_fill page) (w.downs c) e);
  unwritable = λ page e g. (g, none page);
  gone = λ page e g. g;
  flat = λ page e g. refl;
} where
  none : (page : PageView) → none_is (is_back page) (Ack number count ∷ []) ≡ true
  none page = total-none_is (is_back page) (Ack number count ∷ []) (total-one (is_back page) (Ack number count))

answers-sent : (c number count : ℕ) (behind : List Msg) (w : World) → Answered c number behind w
    → IsUp (answers c number count behind w) c (Ack number count) []
answers-sent c number count behind w s = (
  s.waits,
  λ page busy e. record {
    back = none_is-nothing (is_back page);
    fill = ap (λ l. none_is (is_fill page) l) (put-here c behind w.downs) ∙ s.unfilled page busy e;
    left = s.left page busy e;
  },
)

answers-downs : (c number count : ℕ) (behind : List Msg) (w : World) → DownsStep w (answers c number count behind w) c behind
answers-downs c number count behind w = record {
  regions = refl;
  perms = refl;
  asks = λ page. inl refl;
  flat = λ page e. inl refl;
}

answers-elsewhere : (c number count : ℕ) (behind : List Msg) (w : World) (blade : ℕ) → (blade == c) ≡ false → Elsewhere w (answers c number count behind w) blade
answers-elsewhere c number count behind w blade away = record {
  regions = refl;
  places = refl;
  wants = refl;
  perms = refl;
  frames = λ page. refl;
  asks = λ page. refl;
  downs = put-other c behind w.downs blade away;
  flat = λ page e. refl;
}

answers-answered : (c number count : ℕ) (behind : List Msg) (w : World) → Answered c number behind w → AreAnswered w → AreAnswered (answers c number count behind w)
answers-answered c number count behind w s h blade page = grind (arith, h blade page, s.fills page, s.denies page, total-append, total-one)

answers-called : (c number count : ℕ) (behind : List Msg) (w : World) → Answered c number behind w → AreCalled w → AreCalled (answers c number count behind w)
answers-called c number count behind w s h blade other page busy e = grind (arith, h blade other page busy e, s.calls other, total-append, total-one)

answers-backs : (c number count : ℕ) (behind : List Msg) (w : World) (blade : ℕ) (page : PageView)
    → none_is (is_back page) ((answers c number count behind w).ups blade) ≡ true → none_is (is_back page) (w.ups blade) ≡ true
answers-backs c number count behind w blade page e = grind (arith, e, total-append)

answers-written : (c number count : ℕ) (behind : List Msg) (w : World) → AreWritten w → AreWritten (answers c number count behind w)
answers-written c number count behind w h page place e g = h page place e (λ blade. ((g blade).0, answers-backs c number count behind w blade page (g blade).1))

answers-keeps : (c number count : ℕ) (behind : List Msg) (w : World) → Answered c number behind w → IsCoherent w → IsCoherent (answers c number count behind w)
answers-keeps c number count behind w s h = let v = answers c number count behind w in coherent_after v.frames v.asks v.ups v.downs v.flat w h (record {
  frames = h.frames;
  ups = ups_of_all w v c (Ack number count ∷ []) (answers-ups c number count behind w s) (answers-elsewhere c number count behind w)
      (ups-one v c (Ack number count) (answers-sent c number count behind w s)) h.ups;
  downs = downs_of_all w v c behind (answers-downs c number count behind w) (answers-elsewhere c number count behind w) s.rest h.downs;
  counted = (answers-answered c number count behind w s h.answered, h.wanted, answers-called c number count behind w s h.called);
  written = answers-written c number count behind w h.written;
  fetching = λ blade page e. refl;
})

-- ---- the two moves

-- the first message down is the call, and nothing else
answered-first : (c number : ℕ) (m : Msg) (behind : List Msg) (w : World) → w.downs c ≡ m ∷ behind
    → ((other : ℕ) → is_call other m ≡ (other == number)) → ((page : PageView) → is_fill page m ≡ false) → ((page : PageView) → is_deny page m ≡ false)
    → AreDowns w c behind → WaitsSomewhere w.regions number c
    → ((page : PageView) (busy : Busy) → transition number (w.regions page) ≡ Some busy → none_is (is_fill page) behind ≡ true)
    → ((page : PageView) (busy : Busy) → transition number (w.regions page) ≡ Some busy
    → (w.frames c page ≡ None) ⊎ ((is_writable (w.frames c page) ≡ false) × (names busy.target c ≡ true)))
    → Answered c number behind w
answered-first c number m behind w e call fill deny rest waits unfilled left = record {
  calls = λ other. counted (is_call other) (other == number) (call other);
  fills = λ page. counted (is_fill page) false (fill page) ∙ omega arith;
  denies = λ page. counted (is_deny page) false (deny page) ∙ omega arith;
  rest = rest;
  waits = waits;
  unfilled = unfilled;
  left = left;
} where
  counted : (test : Msg → Bool) (b : Bool) → test m ≡ b → total test (w.downs c) ≡ bit b + total test behind
  counted test b is = ap (total test) e ∙ total-cons test m behind ∙ ap (λ t. bit t + total test behind) is

pub answers_inv-keeps : (c number : ℕ) (range : RangeView) (asked : Option PageView) (count : ℕ) (behind : List Msg) (w : World)
    → w.downs c ≡ Inv number range asked ∷ behind → HoldsNone w c range → IsCoherent w → IsCoherent (answers c number count behind w)
answers_inv-keeps c number range asked count behind w e held h =
    let parts = downs-cons w c (Inv number range asked) behind (subst (λ q. AreDowns w c q) e (h.downs c)) in
    answers-keeps c number count behind w
    (answered-first c number (Inv number range asked) behind w e (λ other. refl) (λ page. refl) (λ page. refl) parts.1 parts.0.0
    (λ page busy g. (parts.0.1 page busy g).fill) (λ page busy g. inl (held page (parts.0.1 page busy g).block))) h

pub answers_lower-keeps : (c number : ℕ) (range : RangeView) (asked : PageView) (count : ℕ) (behind : List Msg) (w : World)
    → w.downs c ≡ Lower number range asked ∷ behind → HoldsNoneWritable w c range → IsCoherent w → IsCoherent (answers c number count behind w)
answers_lower-keeps c number range asked count behind w e held h =
    let parts = downs-cons w c (Lower number range asked) behind (subst (λ q. AreDowns w c q) e (h.downs c)) in
    answers-keeps c number count behind w
    (answered-first c number (Lower number range asked) behind w e (λ other. refl) (λ page. refl) (λ page. refl) parts.1 parts.0.0
    (λ page busy g. (parts.0.1 page busy g).0.fill) (λ page busy g. inr (held page (parts.0.1 page busy g).0.block, (parts.0.1 page busy g).1))) h
