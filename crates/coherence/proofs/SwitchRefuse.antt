-- A request that is refused keeps all that is true.
use Rattle.std.proofs.Common.{◌≡◌, refl, ℕ, Bool, true, false, List, [], ◌∷◌, ◌++◌, Some, arith}
use Rattle.std.specs.Prelude.{if◌then◌else◌}
use Rattle.std.proofs.lemmas.Bool.Decides.{nat_tests}
use Rattle.mind_base.specs.Page.{PageView}
use Rattle.mind_base.specs.Permission.{allows}
use Rattle.page_cache.proofs.Callers.{same_page-true, same_page-refl}
use Rattle.wire_msg.specs.declared.msgs.Msg.{Msg}
use Rattle.wire_msg.specs.declared.msgs.Msg.TheVariants.{Deny, Back, Inv, Lower, Ack, Image}
use Rattle.coherence.specs.Counts.{is_fill, none_is}
use Rattle.coherence.specs.World.{World, Wanted}
use Rattle.coherence.specs.Facts.{IsCoherent, IsUp, IsDown, AreDowns, IsFrom, AreAnswered, AreWanted, AreFetched, AreCalled, AreFetches, is_fetching}
use Rattle.coherence.proofs.Changes.{by-number}
use Rattle.coherence.proofs.Lists.{none_is-append, total-append}
use Rattle.coherence.proofs.Queues.{ups-kept, downs-kept, none-never, tos-same, froms-same}
use Rattle.coherence.specs.Moves.{May, moved, Refuses, refused}

answered_refused : (w : World) (blade : ℕ) (page : PageView) (wanted : Wanted) → w.wants blade page ≡ Some wanted
    → AreAnswered w → AreAnswered (refused blade page w)
answered_refused w blade page wanted is answered b p = grind (arith, nat_tests, answered b p, total-append, same_page-true, same_page-refl page)

wanted_refused : (w : World) (blade : ℕ) (page : PageView) → AreWanted w → AreWanted (refused blade page w)
wanted_refused w blade page wanted b p v is = grind (arith, nat_tests, wanted b p v)

fetches_refused : (w : World) (blade : ℕ) (page : PageView) → AreFetches w → AreFetches (refused blade page w)
fetches_refused w blade page fetches b p v is fetching = fetches b p v (grind arith) fetching

fetching_refused : (w : World) (blade : ℕ) (page : PageView) → is_fetching (w.wants blade page) ≡ false
    → (b : ℕ) (p : PageView) → is_fetching (w.wants b p) ≡ true → is_fetching ((refused blade page w).wants b p) ≡ true
fetching_refused w blade page none b p is = grind (arith, nat_tests, same_page-true)

fetched_refused : (w : World) (blade : ℕ) (page : PageView) → is_fetching (w.wants blade page) ≡ false
    → AreFetched w → AreFetched (refused blade page w)
fetched_refused w blade page none fetched b p place lies = grind (arith, nat_tests, fetched b p place lies, same_page-true)

called_refused : (w : World) (blade : ℕ) (page : PageView) → AreCalled w → AreCalled (refused blade page w)
called_refused w blade page called b number p busy is = grind (arith, nat_tests, called b number p busy is, total-append)

fill_refused : (w : World) (blade : ℕ) (page : PageView) (n : ℕ) (p : PageView) → none_is (is_fill p) (w.downs n) ≡ true → none_is (is_fill p) ((refused blade page w).downs n) ≡ true
fill_refused w blade page n p none = grind (arith, nat_tests, total-append)

ups_refused : (w : World) (blade : ℕ) (page : PageView) (n : ℕ) (m : Msg) (later : List Msg) → IsUp w n m later → IsUp (refused blade page w) n m later
ups_refused w blade page n (Back p image) later up = record {
  writer = up.writer;
  newest = up.newest;
  lowered = up.lowered;
  placed = up.placed;
  unfilled = fill_refused w blade page n p up.unfilled;
  unwanted = let e = up.unwanted in grind (arith, nat_tests);
}
ups_refused w blade page n (Ack number count) later up =
    (up.0, λ p busy is. let keeps = up.1 p busy is in record { back = keeps.back; fill = fill_refused w blade page n p keeps.fill; left = keeps.left })
ups_refused w blade page n m later up = up

downs_refused : (w : World) (blade : ℕ) (page : PageView) (n : ℕ) (m : Msg) (later : List Msg) → IsDown w n m later → IsDown (refused blade page w) n m (later ++ Deny page ∷ [])
downs_refused w blade page n (Inv number range asked) later down =
    (down.0, λ p busy is. let call = down.1 p busy is in record { block = call.block; fill = none_is-append (is_fill p) later (Deny page ∷ []) call.fill refl })
downs_refused w blade page n (Lower number range asked) later down =
    (down.0, λ p busy is. let call = down.1 p busy is in (record { block = call.0.block; fill = none_is-append (is_fill p) later (Deny page ∷ []) call.0.fill refl }, call.1))
downs_refused w blade page n m later down = down

froms_refused : (w : World) (blade : ℕ) (page : PageView) → is_fetching (w.wants blade page) ≡ false
    → (memory : ℕ) (m : Msg) → IsFrom w memory m → IsFrom (refused blade page w) memory m
froms_refused w blade page none memory (Image (Some b) p image) from = (from.0, fetching_refused w blade page none b p from.1, from.2, from.3)
froms_refused w blade page none memory m from = absurd from

deny_last : (w : World) (blade : ℕ) (page : PageView) (write : Bool) → w.asks blade page ≡ Some write → allows write (w.perms page) ≡ false → AreDowns (refused blade page w) blade (Deny page ∷ [])
deny_last w blade page write asks not = (grind arith, tt)

pub refuses : (w : World) (blade : ℕ) (page : PageView) (write : Bool) → IsCoherent w → May w (Refuses blade page write)
    → IsCoherent (moved w (Refuses blade page write))
refuses w blade page write safe (is, not) =
    let after = refused blade page w in
    let idle : is_fetching (w.wants blade page) ≡ false = grind arith in
    let asks = safe.wanted blade page _ is in
    record {
      frames = safe.frames;
      ups = λ b. ups-kept w after b (λ m. false) (λ m later e. ups_refused w blade page b m later) (w.ups b) (none-never (w.ups b)) (safe.ups b);
      downs = λ b. by-number (λ n t. AreDowns after n (if t then w.downs blade ++ Deny page ∷ [] else w.downs n)) b blade
          (downs-kept w after blade (λ m. false) (Deny page ∷ []) (λ m later e. downs_refused w blade page blade m later) (deny_last w blade page write asks not) (w.downs blade) (none-never (w.downs blade)) (safe.downs blade))
          (λ away. safe.downs b);
      answered = answered_refused w blade page _ is safe.answered;
      wanted = wanted_refused w blade page safe.wanted;
      fetched = fetched_refused w blade page idle safe.fetched;
      called = called_refused w blade page safe.called;
      fetches = fetches_refused w blade page safe.fetches;
      numbered = safe.numbered;
      blocks = safe.blocks;
      targets = safe.targets;
      tos = λ memory. tos-same w after memory (λ m. false) (λ phys b p e lies fetching. (lies, refl, fetching_refused w blade page idle b p fetching)) (w.tos memory) (w.images memory) (none-never (w.tos memory)) (safe.tos memory);
      written = safe.written;
      froms = λ memory. froms-same w after memory (λ m. false) (λ m e. froms_refused w blade page idle memory m) (w.froms memory) (none-never (w.froms memory)) (safe.froms memory);
      placed = record { apart = safe.placed.apart; placed = safe.placed.placed };
    }
