-- A request that comes to the switch keeps all that is true.
use Rattle.std.proofs.Common.{◌≡◌, ◌⊎◌, inl, inr, refl, ℕ, ◌==◌, Bool, true, false, List, ◌∷◌, Some, None, subst, arith}
use Rattle.std.specs.Prelude.{if◌then◌else◌}
use Rattle.std.proofs.lemmas.Bool.Decides.{nat_tests}
use Rattle.mind_base.specs.Page.{PageView}
use Rattle.page_cache.proofs.Callers.{same_page-true, same_page-refl}
use Rattle.wire_msg.specs.declared.msgs.Msg.{Msg}
use Rattle.wire_msg.specs.declared.msgs.Msg.TheVariants.{Get, Back, Image}
use Rattle.coherence.specs.Counts.{is_back}
use Rattle.coherence.specs.World.{World}
use Rattle.coherence.specs.Facts.{IsCoherent, IsUp, AreUps, IsFrom, AreWritten, AreAnswered, AreWanted, AreFetched, AreCalled, AreFetches, is_fetching}
use Rattle.coherence.specs.Moves.{May, moved, HearsGet, arrived}
use Rattle.coherence.proofs.Changes.{by-number}
use Rattle.coherence.proofs.Queues.{ups-kept, none-never, tos-same, froms-same}

-- none was wanted: what answers a request is one, and it is this one
unwanted_before : (w : World) (blade : ℕ) (page : PageView) (write : Bool) (behind : List Msg) → w.ups blade ≡ Get page write ∷ behind → AreAnswered w → w.wants blade page ≡ None
unwanted_before w blade page write behind head answered = grind (arith, nat_tests, answered blade page, same_page-refl page)

answered_arrived : (w : World) (blade : ℕ) (page : PageView) (write : Bool) (behind : List Msg) → w.ups blade ≡ Get page write ∷ behind
    → AreAnswered w → AreAnswered (arrived blade page write behind w)
answered_arrived w blade page write behind head answered b p = grind (arith, nat_tests, answered b p, same_page-true, same_page-refl page)

wanted_arrived : (w : World) (blade : ℕ) (page : PageView) (write : Bool) (behind : List Msg) → w.asks blade page ≡ Some write
    → AreWanted w → AreWanted (arrived blade page write behind w)
wanted_arrived w blade page write behind asks wanted b p v is = grind (arith, nat_tests, wanted b p v, same_page-true)

ups_arrived : (w : World) (blade : ℕ) (page : PageView) (write : Bool) (behind : List Msg) → (n : ℕ) (m : Msg) (later : List Msg)
    → ((n == blade) ≡ false) ⊎ (is_back page m ≡ false) → IsUp w n m later → IsUp (arrived blade page write behind w) n m later
ups_arrived w blade page write behind n (Back p image) later apart up =
    record { writer = up.writer; newest = up.newest; placed = up.placed; lowered = up.lowered; unfilled = up.unfilled; unwanted = let e = up.unwanted in grind (arith, nat_tests, same_page-true, same_page-refl p) }
ups_arrived w blade page write behind n m later apart up = up

fetched_arrived : (w : World) (blade : ℕ) (page : PageView) (write : Bool) (behind : List Msg) → w.wants blade page ≡ None
    → AreFetched w → AreFetched (arrived blade page write behind w)
fetched_arrived w blade page write behind none fetched b p place lies = grind (arith, nat_tests, fetched b p place lies, same_page-true)

fetches_arrived : (w : World) (blade : ℕ) (page : PageView) (write : Bool) (behind : List Msg)
    → AreFetches w → AreFetches (arrived blade page write behind w)
fetches_arrived w blade page write behind fetches b p v is fetching = fetches b p v (grind arith) fetching

called_arrived : (w : World) (blade : ℕ) (page : PageView) (write : Bool) (behind : List Msg) → w.ups blade ≡ Get page write ∷ behind
    → AreCalled w → AreCalled (arrived blade page write behind w)
called_arrived w blade page write behind head called b number p busy is = grind (arith, nat_tests, called b number p busy is)

fetching_arrived : (w : World) (blade : ℕ) (page : PageView) (write : Bool) (behind : List Msg) → w.wants blade page ≡ None
    → (b : ℕ) (p : PageView) → is_fetching (w.wants b p) ≡ true → is_fetching ((arrived blade page write behind w).wants b p) ≡ true
fetching_arrived w blade page write behind none b p is = grind (arith, nat_tests, same_page-true)

froms_arrived : (w : World) (blade : ℕ) (page : PageView) (write : Bool) (behind : List Msg) → w.wants blade page ≡ None
    → (memory : ℕ) (m : Msg) → IsFrom w memory m → IsFrom (arrived blade page write behind w) memory m
froms_arrived w blade page write behind none memory (Image (Some b) p image) from = (from.0, fetching_arrived w blade page write behind none b p from.1, from.2, from.3)
froms_arrived w blade page write behind none memory m from = absurd from

written_arrived : (w : World) (blade : ℕ) (page : PageView) (write : Bool) (behind : List Msg) → w.ups blade ≡ Get page write ∷ behind
    → AreWritten w → AreWritten (arrived blade page write behind w)
written_arrived w blade page write behind head all p place lies clean =
    all p place lies (λ b. let c = clean b in (c.0, grind (arith, nat_tests, c.1)))

pub hears_get : (w : World) (blade : ℕ) (page : PageView) (write : Bool) (behind : List Msg) → IsCoherent w → May w (HearsGet blade page write behind)
    → IsCoherent (moved w (HearsGet blade page write behind))
hears_get w blade page write behind safe head =
    let first = subst (AreUps w blade) head (safe.ups blade) in
    let none = unwanted_before w blade page write behind head safe.answered in
    let after = arrived blade page write behind w in
    record {
      frames = safe.frames;
      ups = λ b. by-number (λ n t. AreUps after n (if t then behind else w.ups n)) b blade
          (ups-kept w after blade (is_back page) (λ m later e. ups_arrived w blade page write behind blade m later (inr e)) behind first.0.0 first.1)
          (λ away. ups-kept w after b (λ m. false) (λ m later e. ups_arrived w blade page write behind b m later (inl away)) (w.ups b) (none-never (w.ups b)) (safe.ups b));
      downs = safe.downs;
      answered = answered_arrived w blade page write behind head safe.answered;
      wanted = wanted_arrived w blade page write behind first.0.1 safe.wanted;
      fetched = fetched_arrived w blade page write behind none safe.fetched;
      called = called_arrived w blade page write behind head safe.called;
      fetches = fetches_arrived w blade page write behind safe.fetches;
      numbered = safe.numbered;
      blocks = safe.blocks;
      targets = safe.targets;
      tos = λ memory. tos-same w after memory (λ m. false) (λ phys b p e lies is. (lies, refl, fetching_arrived w blade page write behind none b p is)) (w.tos memory) (w.images memory) (none-never (w.tos memory)) (safe.tos memory);
      written = written_arrived w blade page write behind head safe.written;
      froms = λ memory. froms-same w after memory (λ m. false) (λ m e. froms_arrived w blade page write behind none memory m) (w.froms memory) (none-never (w.froms memory)) (safe.froms memory);
      placed = record { apart = safe.placed.apart; placed = safe.placed.placed };
    }
