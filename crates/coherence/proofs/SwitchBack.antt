-- An image that comes back to the switch keeps all that is true.
use Rattle.std.proofs.Common.{◌≡◌, refl, ℕ, Bool, true, false, List, [], ◌∷◌, ◌++◌, Some, subst, arith}
use Rattle.std.specs.Prelude.{if◌then◌else◌}
use Rattle.std.proofs.lemmas.Bool.Decides.{nat_tests}
use Rattle.mind_base.specs.Page.{PageView}
use Rattle.page_cache.specs.PageCache.{same_page}
use Rattle.page_cache.proofs.Callers.{same_page-true, same_page-refl}
use Rattle.page_image.specs.PageImage.{PageImageView}
use Rattle.wire_msg.specs.declared.msgs.Msg.{Msg}
use Rattle.wire_msg.specs.declared.msgs.Msg.TheVariants.{Back, Write}
use Rattle.coherence.specs.World.{World, put}
use Rattle.coherence.specs.Facts.{IsCoherent, AreUps, AreTos, AreWritten, AreAnswered, AreFetched, AreCalled, ArePlaced, images_written}
use Rattle.coherence.proofs.Changes.{by-number}
use Rattle.coherence.proofs.Lists.{total-append}
use Rattle.coherence.proofs.Queues.{none-never, tos-kept, written-append}
use Rattle.coherence.specs.Moves.{May, moved, HearsBack, went_back}

answered_back : (w : World) (blade : ℕ) (page : PageView) (image : PageImageView) (place : ℕ × ℕ) (behind : List Msg) → w.ups blade ≡ Back page image ∷ behind
    → AreAnswered w → AreAnswered (went_back blade place image behind w)
answered_back w blade page image place behind head answered b p = grind (arith, nat_tests, answered b p)

fetched_back : (w : World) (blade : ℕ) (image : PageImageView) (place : ℕ × ℕ) (behind : List Msg)
    → AreFetched w → AreFetched (went_back blade place image behind w)
fetched_back w blade image place behind fetched b p at lies = grind (arith, nat_tests, total-append, fetched b p at lies)

called_back : (w : World) (blade : ℕ) (page : PageView) (image : PageImageView) (place : ℕ × ℕ) (behind : List Msg) → w.ups blade ≡ Back page image ∷ behind
    → AreCalled w → AreCalled (went_back blade place image behind w)
called_back w blade page image place behind head called b number p busy is = grind (arith, nat_tests, called b number p busy is)

-- the page that came back is the newest where it lies once the writes have come
written_here : (w : World) (page : PageView) (image : PageImageView) (place at : ℕ × ℕ) → at ≡ place → image ≡ w.flat page
    → images_written (put place.0 (w.tos place.0 ++ Write place.1 image ∷ []) w.tos at.0) (w.images at.0) at.1 ≡ w.flat page
written_here w page image place at same newest = grind (arith, nat_tests, written-append (w.tos place.0) (Write place.1 image ∷ []) (w.images place.0))

-- what lies elsewhere is as it was
written_there : (w : World) (page : PageView) (image : PageImageView) (place at : ℕ × ℕ) → (at ≡ place → ⊥) → images_written (w.tos at.0) (w.images at.0) at.1 ≡ w.flat page
    → images_written (put place.0 (w.tos place.0 ++ Write place.1 image ∷ []) w.tos at.0) (w.images at.0) at.1 ≡ w.flat page
written_there w page image place at other known = grind (arith, nat_tests, other, written-append (w.tos place.0) (Write place.1 image ∷ []) (w.images place.0))

written_back : (w : World) (blade : ℕ) (page : PageView) (image : PageImageView) (place : ℕ × ℕ) (behind : List Msg) → w.ups blade ≡ Back page image ∷ behind
    → w.places page ≡ Some place → image ≡ w.flat page → ArePlaced w → AreWritten w → AreWritten (went_back blade place image behind w)
written_back w blade page image place behind head lies newest placed all p at is clean = by (same_page p page) refl where
  by : (b : Bool) → same_page p page ≡ b → images_written (put place.0 (w.tos place.0 ++ Write place.1 image ∷ []) w.tos at.0) (w.images at.0) at.1 ≡ w.flat p
  by true e = let same : p ≡ page = same_page-true p page e in written_here w p image place at (grind arith) (grind arith)
  by false e = written_there w p image place at (λ same. let both : p ≡ page = placed.apart p page place (grind arith) lies in grind (arith, same_page-refl p))
      (all p at is (λ b. let c = clean b in (c.0, grind (arith, nat_tests, c.1))))

pub hears_back : (w : World) (blade : ℕ) (page : PageView) (image : PageImageView) (place : ℕ × ℕ) (behind : List Msg) → IsCoherent w → May w (HearsBack blade page image place behind)
    → IsCoherent (moved w (HearsBack blade page image place behind))
hears_back w blade page image place behind safe (head, lies) =
    let first = subst (AreUps w blade) head (safe.ups blade) in
    let after = went_back blade place image behind w in
    record {
      frames = safe.frames;
      ups = λ b. by-number (λ n t. AreUps after n (if t then behind else w.ups n)) b blade first.1 (λ away. safe.ups b);
      downs = safe.downs;
      answered = answered_back w blade page image place behind head safe.answered;
      wanted = safe.wanted;
      fetched = fetched_back w blade image place behind safe.fetched;
      called = called_back w blade page image place behind head safe.called;
      fetches = safe.fetches;
      numbered = safe.numbered;
      blocks = safe.blocks;
      targets = safe.targets;
      tos = λ memory. by-number (λ n t. AreTos after n (w.images n) (if t then w.tos place.0 ++ Write place.1 image ∷ [] else w.tos n)) memory place.0
          (tos-kept w after place.0 (λ m. false) (Write place.1 image ∷ []) (λ phys b p e at is. (at, refl, is)) (w.tos place.0) (w.images place.0) (none-never (w.tos place.0)) tt (safe.tos place.0))
          (λ away. safe.tos memory);
      written = written_back w blade page image place behind head lies first.0.newest safe.placed safe.written;
      froms = safe.froms;
      placed = record { apart = safe.placed.apart; placed = safe.placed.placed };
    }
