-- An image for a request, which goes on to the blade, keeps all that is true.
use Rattle.std.proofs.Common.{◌≡◌, refl, sym, ℕ, ◌+◌, ◌==◌, ◌&&◌, Bool, true, false, List, [], ◌∷◌, ◌++◌, Option, Some, None, IfSome, is_some, subst, arith, eqb-true}
use Rattle.std.specs.Prelude.{if◌then◌else◌}
use Rattle.std.proofs.lemmas.Bool.Decides.{nat_tests}
use Rattle.mind_base.specs.Page.{PageView}
use Rattle.mind_base.specs.declared.commands.Perm.{Perm}
use Rattle.region_directory.specs.declared.entries.Busy.{Busy}
use Rattle.page_cache.specs.PageCache.{same_page}
use Rattle.page_cache.proofs.Callers.{same_page-true, same_page-refl}
use Rattle.page_image.specs.PageImage.{PageImageView}
use Rattle.wire_msg.specs.declared.msgs.Msg.{Msg}
use Rattle.wire_msg.specs.declared.msgs.Msg.TheVariants.{Fill, Back, Inv, Lower, Ack, Image}
use Rattle.coherence.specs.Counts.{bit, is_fill, is_read, is_image, total, none_is}
use Rattle.coherence.specs.World.{Region, World, Wanted, put}
use Rattle.coherence.specs.Facts.{IsCoherent, IsUp, IsDown, AreDowns, IsFrom, AreFroms, AreTos, AreAnswered, AreWanted, AreFetched, AreCalled, AreFetches, transition, is_fetching}
use Rattle.coherence.proofs.Changes.{by-test, by-number, by-both}
use Rattle.coherence.proofs.Lists.{total-append}
use Rattle.coherence.proofs.Queues.{ups-kept, downs-kept, none-never, tos-same, froms-same}
use Rattle.coherence.specs.Moves.{May, moved, HearsImage, passed_on}

idle_transition : (region : Option Region) (number : ℕ) → IfSome region (λ r. r.busy ≡ None) → transition number region ≡ None
idle_transition None number idle = refl
idle_transition (Some region) number idle = grind arith

counted : (w : World) (memory blade : ℕ) (page : PageView) (image : PageImageView) (behind : List Msg) → w.froms memory ≡ Image (Some blade) page image ∷ behind
    → is_fetching (w.wants blade page) ≡ true → IfSome (w.places page) (λ place. place.0 ≡ memory) → is_some (w.places page) ≡ true
    → AreFetched w → (none_is (is_read blade page) (w.tos memory) ≡ true) × (none_is (is_image blade page) behind ≡ true)
counted w memory blade page image behind head fetching lies some fetched = by (w.places page) refl where
  by : (o : Option (ℕ × ℕ)) → w.places page ≡ o → (none_is (is_read blade page) (w.tos memory) ≡ true) × (none_is (is_image blade page) behind ≡ true)
  by None e = absurd (grind arith)
  by (Some place) e =
      let at : place.0 ≡ memory = grind arith in
      let count = fetched blade page place e in
      let count' = subst (λ m. total (is_read blade page) (w.tos m) + total (is_image blade page) (w.froms m) ≡ bit (is_fetching (w.wants blade page))) at count in
      (grind (arith, nat_tests, same_page-refl page), grind (arith, nat_tests, same_page-refl page))

answered_passed : (w : World) (memory blade : ℕ) (page : PageView) (wanted : Wanted) (image : PageImageView) (behind : List Msg) → w.wants blade page ≡ Some wanted
    → AreAnswered w → AreAnswered (passed_on memory blade page wanted image behind w)
answered_passed w memory blade page wanted image behind is answered b p = grind (arith, nat_tests, answered b p, total-append, same_page-true, same_page-refl page)

wanted_passed : (w : World) (memory blade : ℕ) (page : PageView) (wanted : Wanted) (image : PageImageView) (behind : List Msg)
    → AreWanted w → AreWanted (passed_on memory blade page wanted image behind w)
wanted_passed w memory blade page wanted image behind all b p v is = grind (arith, nat_tests, all b p v)

fetches_passed : (w : World) (memory blade : ℕ) (page : PageView) (wanted : Wanted) (image : PageImageView) (behind : List Msg)
    → AreFetches w → AreFetches (passed_on memory blade page wanted image behind w)
fetches_passed w memory blade page wanted image behind fetches b p v is fetching = fetches b p v (grind arith) fetching

called_passed : (w : World) (memory blade : ℕ) (page : PageView) (wanted : Wanted) (image : PageImageView) (behind : List Msg)
    → AreCalled w → AreCalled (passed_on memory blade page wanted image behind w)
called_passed w memory blade page wanted image behind called b number p busy is = grind (arith, nat_tests, called b number p busy is, total-append)

fetched_passed : (w : World) (memory blade : ℕ) (page : PageView) (wanted : Wanted) (image : PageImageView) (behind : List Msg) → w.froms memory ≡ Image (Some blade) page image ∷ behind
    → is_fetching (w.wants blade page) ≡ true → ((m phys : ℕ) → w.places page ≡ Some (m, phys) → m ≡ memory)
    → AreFetched w → AreFetched (passed_on memory blade page wanted image behind w)
fetched_passed w memory blade page wanted image behind head fetching here fetched b p place lies =
    by-both (λ n x t. total (is_read n x) (w.tos place.0) + total (is_image n x) (w.froms place.0) ≡ bit (is_fetching (w.wants n x)) → w.places x ≡ Some place
    → total (is_read n x) (w.tos place.0) + total (is_image n x) (put memory behind w.froms place.0) ≡ bit (is_fetching (if t then None else w.wants n x))) b blade p page
    (λ known at. let e : place.0 ≡ memory = here place.0 place.1 at in grind (arith, nat_tests, same_page-refl page))
    (λ away known at. grind (arith, nat_tests))
    (fetched b p place lies) lies

fill_passed : (w : World) (memory blade : ℕ) (page : PageView) (wanted : Wanted) (image : PageImageView) (behind : List Msg) (n : ℕ) (p : PageView)
    → (n == blade && same_page p page) ≡ false → none_is (is_fill p) (w.downs n) ≡ true → none_is (is_fill p) ((passed_on memory blade page wanted image behind w).downs n) ≡ true
fill_passed w memory blade page wanted image behind n p away none = grind (arith, nat_tests, total-append)

-- a page with a transition is another
busy_elsewhere : (w : World) (page : PageView) → ((number : ℕ) → transition number (w.regions page) ≡ None)
    → (number : ℕ) (p : PageView) (busy : Busy) → transition number (w.regions p) ≡ Some busy → same_page p page ≡ false
busy_elsewhere w page idle number p busy is = by-test (λ b. same_page p page ≡ b → b ≡ false) (same_page p page)
    (λ _ e. let same : p ≡ page = same_page-true p page e in let none = idle number in grind arith) (λ _ _. refl) refl

ups_passed : (w : World) (memory blade : ℕ) (page : PageView) (wanted : Wanted) (image : PageImageView) (behind : List Msg) → w.wants blade page ≡ Some wanted
    → ((number : ℕ) → transition number (w.regions page) ≡ None)
    → (n : ℕ) (m : Msg) (later : List Msg) → IsUp w n m later → IsUp (passed_on memory blade page wanted image behind w) n m later
ups_passed w memory blade page wanted image behind is idle n (Back p back) later up =
    let e = up.unwanted in
    let away : (n == blade && same_page p page) ≡ false = grind (arith, nat_tests, same_page-true) in
    record {
      writer = up.writer;
      newest = up.newest;
      lowered = up.lowered;
      placed = up.placed;
      unfilled = fill_passed w memory blade page wanted image behind n p away up.unfilled;
      unwanted = grind (arith, nat_tests);
    }
ups_passed w memory blade page wanted image behind is idle n (Ack number count) later up = (
  up.0,
  λ p busy at. let keeps = up.1 p busy at in
      let away = busy_elsewhere w page idle number p busy at in
      record { back = keeps.back; fill = fill_passed w memory blade page wanted image behind n p (grind (arith)) keeps.fill; left = keeps.left },
)
ups_passed w memory blade page wanted image behind is idle n m later up = up

fill_later : (p page : PageView) (perm : Perm) (write : Bool) (image : PageImageView) (later : List Msg) → same_page p page ≡ false → none_is (is_fill p) later ≡ true
    → none_is (is_fill p) (later ++ Fill page perm write image ∷ []) ≡ true
fill_later p page perm write image later away none = grind (arith, nat_tests, total-append)

downs_passed : (w : World) (memory blade : ℕ) (page : PageView) (wanted : Wanted) (image : PageImageView) (behind : List Msg)
    → ((number : ℕ) → transition number (w.regions page) ≡ None)
    → (n : ℕ) (m : Msg) (later : List Msg) → IsDown w n m later → IsDown (passed_on memory blade page wanted image behind w) n m (later ++ Fill page (w.perms page) wanted.write image ∷ [])
downs_passed w memory blade page wanted image behind idle n (Inv number range asked) later down = (
  down.0,
  λ p busy at. let call = down.1 p busy at in
      record { block = call.block; fill = fill_later p page (w.perms page) wanted.write image later (busy_elsewhere w page idle number p busy at) call.fill },
)
downs_passed w memory blade page wanted image behind idle n (Lower number range asked) later down = (
  down.0,
  λ p busy at. let call = down.1 p busy at in
      (record { block = call.0.block; fill = fill_later p page (w.perms page) wanted.write image later (busy_elsewhere w page idle number p busy at) call.0.fill }, call.1),
)
downs_passed w memory blade page wanted image behind idle n m later down = down

-- another request, or none that fetches here
other_request : (w : World) (memory blade : ℕ) (page : PageView) (wanted : Wanted) (image : PageImageView) (behind : List Msg) (b : ℕ) (p : PageView)
    → (b == blade && same_page p page) ≡ false → is_fetching (w.wants b p) ≡ true → is_fetching ((passed_on memory blade page wanted image behind w).wants b p) ≡ true
other_request w memory blade page wanted image behind b p away is = grind arith

froms_passed : (w : World) (memory blade : ℕ) (page : PageView) (wanted : Wanted) (image : PageImageView) (behind : List Msg)
    → (n : ℕ) (m : Msg) → is_image blade page m ≡ false → IsFrom w n m → IsFrom (passed_on memory blade page wanted image behind w) n m
froms_passed w memory blade page wanted image behind n (Image (Some b) p other) away from =
    (from.0, other_request w memory blade page wanted image behind b p (grind (arith, nat_tests, same_page-true, same_page-refl p)) from.1, from.2, from.3)
froms_passed w memory blade page wanted image behind n m away from = absurd from

place_here : (w : World) (memory : ℕ) (page : PageView) → IfSome (w.places page) (λ place. place.0 ≡ memory) → (m phys : ℕ) → w.places page ≡ Some (m, phys) → m ≡ memory
place_here w memory page lies m phys at = grind arith

-- a page that lies at another memory blade is another
elsewhere_apart : (w : World) (memory blade : ℕ) (page : PageView) (n b : ℕ) (p : PageView) → (n == memory) ≡ false → IfSome (w.places page) (λ place. place.0 ≡ memory)
    → IfSome (w.places p) (λ place. place.0 ≡ n) → is_some (w.places p) ≡ true → (b == blade && same_page p page) ≡ false
elsewhere_apart w memory blade page n b p far lies at some = grind (arith, nat_tests, same_page-true)

read_elsewhere : (w : World) (memory blade : ℕ) (page : PageView) (n phys b : ℕ) (p : PageView) → (n == memory) ≡ false → ((m at : ℕ) → w.places page ≡ Some (m, at) → m ≡ memory)
    → w.places p ≡ Some (n, phys) → (b == blade && same_page p page) ≡ false
read_elsewhere w memory blade page n phys b p far here at = by-test (λ t. same_page p page ≡ t → (b == blade && t) ≡ false) (same_page p page)
    (λ _ e. let same : p ≡ page = same_page-true p page e in let m : n ≡ memory = here n phys (subst (λ x. w.places x ≡ Some (n, phys)) same at) in grind (arith, nat_tests)) (λ _ _. grind arith) refl

tos_passed : (w : World) (memory blade : ℕ) (page : PageView) (wanted : Wanted) (image : PageImageView) (behind : List Msg) → ((m at : ℕ) → w.places page ≡ Some (m, at) → m ≡ memory)
    → none_is (is_read blade page) (w.tos memory) ≡ true
    → (n : ℕ) → AreTos w n (w.images n) (w.tos n) → AreTos (passed_on memory blade page wanted image behind w) n (w.images n) (w.tos n)
tos_passed w memory blade page wanted image behind here unread n tos = by (n == memory) refl where
  by : (t : Bool) → (n == memory) ≡ t → AreTos (passed_on memory blade page wanted image behind w) n (w.images n) (w.tos n)
  by true e = let same : n ≡ memory = eqb-true n memory e in tos-same w (passed_on memory blade page wanted image behind w) n (is_read blade page)
      (λ phys b p away lies is. (lies, refl, other_request w memory blade page wanted image behind b p (grind (arith, nat_tests, same_page-true, same_page-refl p)) is))
      (w.tos n) (w.images n) (subst (λ k. none_is (is_read blade page) (w.tos k) ≡ true) (sym same) unread) tos
  by false e = tos-same w (passed_on memory blade page wanted image behind w) n (λ m. false)
      (λ phys b p away lies is. (lies, refl, other_request w memory blade page wanted image behind b p (read_elsewhere w memory blade page n phys b p e here lies) is))
      (w.tos n) (w.images n) (none-never (w.tos n)) tos

-- at another memory blade
froms_elsewhere : (w : World) (memory blade : ℕ) (page : PageView) (wanted : Wanted) (image : PageImageView) (behind : List Msg)
    → IfSome (w.places page) (λ place. place.0 ≡ memory)
    → (n : ℕ) → (n == memory) ≡ false → (m : Msg) → IsFrom w n m → IsFrom (passed_on memory blade page wanted image behind w) n m
froms_elsewhere w memory blade page wanted image behind lies n far (Image (Some b) p other) from =
    (from.0, other_request w memory blade page wanted image behind b p (elsewhere_apart w memory blade page n b p far lies from.2 from.3) from.1, from.2, from.3)
froms_elsewhere w memory blade page wanted image behind lies n far m from = absurd from

pub hears_image : (w : World) (memory blade : ℕ) (page : PageView) (wanted : Wanted) (image : PageImageView) (behind : List Msg) → IsCoherent w → May w (HearsImage memory blade page wanted image behind)
    → IsCoherent (moved w (HearsImage memory blade page wanted image behind))
hears_image w memory blade page wanted image behind safe (head, is) =
    let first = subst (AreFroms w memory) head (safe.froms memory) in
    let after = passed_on memory blade page wanted image behind w in
    let asks = safe.wanted blade page wanted is in
    let fetching : wanted.fetching ≡ true = let f = first.0.1 in grind arith in
    let fetch = safe.fetches blade page wanted is fetching in
    let idle = λ (number : ℕ). idle_transition (w.regions page) number fetch.idle in
    let counts = counted w memory blade page image behind head first.0.1 first.0.2 first.0.3 safe.fetched in
    let here = place_here w memory page first.0.2 in
    let last : AreDowns after blade (Fill page (w.perms page) wanted.write image ∷ []) =
    (record { held = fetch.held; writer = fetch.writer; newest = first.0.0; perm = refl; readable = fetch.allowed; asked = asks }, tt) in
    record {
      frames = safe.frames;
      ups = λ b. ups-kept w after b (λ m. false) (λ m later e. ups_passed w memory blade page wanted image behind is idle b m later) (w.ups b) (none-never (w.ups b)) (safe.ups b);
      downs = λ b. by-number (λ n t. AreDowns after n (if t then w.downs blade ++ Fill page (w.perms page) wanted.write image ∷ [] else w.downs n)) b blade
          (downs-kept w after blade (λ m. false) (Fill page (w.perms page) wanted.write image ∷ []) (λ m later e. downs_passed w memory blade page wanted image behind idle blade m later) last (w.downs blade) (none-never (w.downs blade)) (safe.downs blade))
          (λ away. safe.downs b);
      answered = answered_passed w memory blade page wanted image behind is safe.answered;
      wanted = wanted_passed w memory blade page wanted image behind safe.wanted;
      fetched = fetched_passed w memory blade page wanted image behind head first.0.1 here safe.fetched;
      called = called_passed w memory blade page wanted image behind safe.called;
      fetches = fetches_passed w memory blade page wanted image behind safe.fetches;
      numbered = safe.numbered;
      blocks = safe.blocks;
      targets = safe.targets;
      tos = λ n. tos_passed w memory blade page wanted image behind here counts.0 n (safe.tos n);
      written = safe.written;
      froms = λ n. by-number (λ k t. AreFroms after k (if t then behind else w.froms k)) n memory
          (froms-same w after memory (is_image blade page) (froms_passed w memory blade page wanted image behind memory) behind counts.1 first.1)
          (λ far. froms-same w after n (λ m. false) (λ m e. froms_elsewhere w memory blade page wanted image behind first.0.2 n far m) (w.froms n) (none-never (w.froms n)) (safe.froms n));
      placed = record { apart = safe.placed.apart; placed = safe.placed.placed };
    }
