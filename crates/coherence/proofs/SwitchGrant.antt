-- A request that is granted keeps all that is true: first its entry names the blade, then the page is read.
use Rattle.std.proofs.Common.{◌≡◌, refl, sym, ℕ, Bool, true, false, List, [], ◌∷◌, ◌++◌, Option, Some, None, IfSome, subst, ap, arith, ◌∙◌, eq-eqb, eqb-true}
use Rattle.std.specs.Prelude.{if◌then◌else◌}
use Rattle.std.proofs.lemmas.Bool.{and_parts, and_from}
use Rattle.std.proofs.lemmas.Bool.Decides.{nat_tests}
use Rattle.mind_base.specs.Page.{PageView}
use Rattle.mind_base.specs.declared.notes.State.{State}
use Rattle.mind_base.specs.declared.notes.State.TheVariants.{I, S, M}
use Rattle.mind_base.specs.Range.{in_range}
use Rattle.region_directory.specs.declared.entries.Busy.{Busy}
use Rattle.page_cache.specs.PageCache.{same_page}
use Rattle.page_cache.specs.declared.frames.Frame.{Frame}
use Rattle.page_cache.proofs.Callers.{same_page-true, same_page-refl}
use Rattle.wire_msg.specs.declared.msgs.Msg.{Msg}
use Rattle.wire_msg.specs.declared.msgs.Msg.TheVariants.{Get, Back, Ack, Read, Image}
use Rattle.coherence.specs.Counts.{is_back, none_is}
use Rattle.coherence.specs.World.{Region, World, put, put_both, put_range}
use Rattle.coherence.specs.Facts.{IsCoherent, IsUp, AreUps, IsFrom, AreTos, AreWritten, AreAnswered, AreWanted, AreFetched, AreFetches, AreFrames, AreBlocks, IsFetch, transition, names, owns, stays, has_not_answered, may, may_hold_writable, is_dirty, is_fetching, images_written}
use Rattle.coherence.proofs.Changes.{by-test, by-number, by-both}
use Rattle.coherence.proofs.Lists.{total-append}
use Rattle.coherence.proofs.Queues.{ups-kept, none-never, tos-kept, tos-same, froms-same, written-append, none-more}
use Rattle.coherence.specs.Moves.{May, Grants, moved, GrantsIt}
use Rattle.coherence.proofs.SwitchEntries.{with_regions, was-same, widened, blocks_put}

-- ---- the entry

-- what a grant says of the old state and the new, be it to read or to write
record Names (old new : State) (blade : ℕ) (write : Bool) : Type 0 where
  held : (other : ℕ) → names old other ≡ true → names new other ≡ true
  writer : (other : ℕ) → owns old other ≡ true → owns new other ≡ true
  named : names new blade ≡ true
  owner : write ≡ true → owns new blade ≡ true
  alone : (other : ℕ) → owns new other ≡ true → other ≡ blade

owner_named : (state : State) (b : ℕ) → owns state b ≡ true → names state b ≡ true
owner_named I b h = h
owner_named (S sharers) b h = absurd (cc h)
owner_named (M owner) b h = h

grants_names : (write : Bool) (old new : State) (blade : ℕ) → Grants write old new blade → Names old new blade write
grants_names false old new blade g = record {
  held = g.others;
  writer = λ other h. g.owner other ∙ h;
  named = g.named;
  owner = λ e. absurd (cc e);
  alone = λ other h. g.alone other (sym (g.owner other) ∙ h);
}
grants_names true old new blade g =
    let own : owns new blade ≡ true = ap (λ s. owns s blade) g.owner ∙ eq-eqb blade blade refl in
    record {
      held = λ other h. subst (λ b. names new b ≡ true) (sym (g.alone other h)) (owner_named new blade own);
      writer = λ other h. subst (λ b. owns new b ≡ true) (sym (g.alone other (owner_named old other h))) own;
      named = owner_named new blade own;
      owner = λ e. own;
      alone = λ other h. sym (eqb-true blade other (sym (ap (λ s. owns s other) g.owner) ∙ h));
    }

abbrev in_state : State → Region → Region
in_state state region = record region { state = state }

-- what an entry lets a blade do it still lets it, in a state that names all that were named
grants_still : (lets : Option Region → Bool) (t : Bool) (old : Option Region) (region : Region) (state : State) → (t ≡ true → old ≡ Some region)
    → (lets (Some region) ≡ true → lets (Some (in_state state region)) ≡ true) → lets old ≡ true → lets (if t then Some (in_state state region) else old) ≡ true
grants_still lets false old region state here step h = h
grants_still lets true old region state here step h = step (subst (λ o. lets o ≡ true) (here refl) h)

grants_held : (t : Bool) (old : Option Region) (region : Region) (state : State) (b : ℕ) → (t ≡ true → old ≡ Some region) → (names region.state b ≡ true → names state b ≡ true)
    → may old b ≡ true → may (if t then Some (in_state state region) else old) b ≡ true
grants_held t old region state b here named = grants_still (λ o. may o b) t old region state here (λ h. let parts = and_parts _ _ h in and_from _ _ (named parts.0) parts.1)

grants_writer : (t : Bool) (old : Option Region) (region : Region) (state : State) (b : ℕ) → (t ≡ true → old ≡ Some region) → (owns region.state b ≡ true → owns state b ≡ true)
    → may_hold_writable old b ≡ true → may_hold_writable (if t then Some (in_state state region) else old) b ≡ true
grants_writer t old region state b here named = grants_still (λ o. may_hold_writable o b) t old region state here (λ h. let parts = and_parts _ _ h in and_from _ _ (named parts.0) parts.1)

grants_transition : (t : Bool) (old : Option Region) (region : Region) (state : State) (number : ℕ) → (t ≡ true → old ≡ Some region)
    → transition number (if t then Some (in_state state region) else old) ≡ transition number old
grants_transition false old region state number here = refl
grants_transition true old region state number here = sym (ap (transition number) (here refl))

grants_idle : (t : Bool) (old : Option Region) (region : Region) (state : State) → region.busy ≡ None → IfSome old (λ r. r.busy ≡ None)
    → IfSome (if t then Some (in_state state region) else old) (λ r. r.busy ≡ None)
grants_idle true old region state idle h = idle
grants_idle false old region state idle h = h

grants_busy : (t : Bool) (old : Option Region) (region : Region) (state : State) (r : Region) (busy : Busy) → region.busy ≡ None
    → (if t then Some (in_state state region) else old) ≡ Some r → r.busy ≡ Some busy → old ≡ Some r
grants_busy true old region state r busy idle is at = absurd (grind arith)
grants_busy false old region state r busy idle is at = is

-- other blocks are apart from that of an entry
pub block_closed : (w : World) (region : Region) → ((p : PageView) → in_range region.range p ≡ true → w.regions p ≡ Some region) → AreBlocks w
    → (p q : PageView) (r : Region) → w.regions p ≡ Some r → in_range r.range q ≡ true → in_range region.range q ≡ true → in_range region.range p ≡ true
block_closed w region all blocks p q r is within inside =
    let block = blocks p r is in
    let here = block.1 q within in
    let there = all q inside in
    let same : r ≡ region = cc in
    subst (λ x. in_range x.range p ≡ true) same block.0

entry_granted : (w : World) (region : Region) (state : State) (blade : ℕ) (write : Bool) → ((p : PageView) → in_range region.range p ≡ true → w.regions p ≡ Some region)
    → region.busy ≡ None → Names region.state state blade write → IsCoherent w → IsCoherent (with_regions (put_range region.range (Some (in_state state region)) w.regions) w)
entry_granted w region state blade write all idle named safe = widened w (put_range region.range (Some (in_state state region)) w.regions)
    (record {
      held = λ p b. grants_held (in_range region.range p) (w.regions p) region state b (all p) (named.held b);
      writer = λ p b. grants_writer (in_range region.range p) (w.regions p) region state b (all p) (named.writer b);
      transition = λ p number. grants_transition (in_range region.range p) (w.regions p) region state number (all p);
      idle = λ p. grants_idle (in_range region.range p) (w.regions p) region state idle;
      busy = λ p r busy is at. was-same (w.regions p) r (grants_busy (in_range region.range p) (w.regions p) region state r busy idle is at);
    })
    (blocks_put w region.range (Some (in_state state region)) (λ r e. grind arith) (block_closed w region all safe.blocks) safe.blocks)
    safe

-- ---- the reading

abbrev begins_read : ℕ → PageView → Bool → ℕ × ℕ → World → World
begins_read blade page write place w = record w {
  wants = put_both blade page (Some (record { write = write; fetching = true })) w.wants;
  tos = put place.0 (w.tos place.0 ++ Read place.1 (Some blade) page ∷ []) w.tos;
}

record MayRead (w : World) (blade : ℕ) (page : PageView) (write : Bool) (place : ℕ × ℕ) : Type 0 where
  wanted : w.wants blade page ≡ Some (record { write = write; fetching = false })
  lies : w.places page ≡ Some place
  fetch : IsFetch (w.regions page) (w.perms page) write blade
  alone : (other : ℕ) → may_hold_writable (w.regions page) other ≡ true → other ≡ blade

module _ (w : World) (blade : ℕ) (page : PageView) (write : Bool) (place : ℕ × ℕ) (can : MayRead w blade page write place) where
  answered_read : AreAnswered w → AreAnswered (begins_read blade page write place w)
  answered_read answered b p = let is = can.wanted in grind (arith, nat_tests, answered b p, same_page-true)

  wanted_read : AreWanted w → AreWanted (begins_read blade page write place w)
  wanted_read wanted b p v is = let e = wanted blade page _ can.wanted in grind (arith, nat_tests, wanted b p v, same_page-true)

  fetched_read : AreFetched w → AreFetched (begins_read blade page write place w)
  fetched_read fetched b p at lies =
      let is = can.wanted in let here = can.lies in grind (arith, nat_tests, fetched b p at lies, same_page-true, same_page-refl page, total-append)

  fetches_read : AreFetches w → AreFetches (begins_read blade page write place w)
  fetches_read fetches b p v is fetching =
      by-both (λ n x t. (if t then Some (record { write = write; fetching = true }) else w.wants n x) ≡ Some v → IsFetch (w.regions x) (w.perms x) v.write n) b blade p page
      (λ e. subst (λ t. IsFetch (w.regions page) (w.perms page) t blade) (let same : write ≡ v.write = grind arith in same) can.fetch)
      (λ away e. fetches b p v e fetching) is

  fetching_read : (b : ℕ) (p : PageView) → is_fetching (w.wants b p) ≡ true → is_fetching ((begins_read blade page write place w).wants b p) ≡ true
  fetching_read b p is = grind arith

  ups_read : (n : ℕ) (m : Msg) (later : List Msg) → IsUp w n m later → IsUp (begins_read blade page write place w) n m later
  ups_read n (Back p image) later up = let e = up.unwanted in let is = can.wanted in
      record { writer = up.writer; newest = up.newest; placed = up.placed; lowered = up.lowered; unfilled = up.unfilled; unwanted = grind (arith, nat_tests, same_page-true) }
  ups_read n m later up = up

  froms_read : (memory : ℕ) (m : Msg) → IsFrom w memory m → IsFrom (begins_read blade page write place w) memory m
  froms_read memory (Image (Some b) p image) from = (from.0, fetching_read b p from.1, from.2, from.3)
  froms_read memory m from = absurd from

  -- nobody holds the page dirty, and nobody sends it back: only the blade may, and it asks for it
  undirty : AreFrames w → AreWanted w → (b : ℕ) → is_dirty (w.frames b page) ≡ false
  undirty frames wanted b = by (w.frames b page) refl where
    by : (o : Option Frame) → w.frames b page ≡ o → is_dirty o ≡ false
    by None e = refl
    by (Some frame) e = by-test (λ t. frame.dirty ≡ t → t ≡ false) frame.dirty
        (λ _ dirty. let h = frames b page frame e in
        let writable = h.dirty dirty in
        let same = can.alone b (h.writer writable) in
        let asks = wanted blade page _ can.wanted in
        let none = subst (λ n. w.asks n page ≡ None) same (h.alone writable) in
        absurd (cc (asks, none)))
        (λ _ _. refl) refl

  unsent_message : (b : ℕ) (m : Msg) (later : List Msg) → IsUp w b m later → is_back page m ≡ false
  unsent_message b (Back p image) later up = by-test (λ t. same_page page p ≡ t → t ≡ false) (same_page page p)
      (λ _ e. let here : p ≡ page = sym (same_page-true page p e) in
      let same = can.alone b (subst (λ x. may_hold_writable (w.regions x) b ≡ true) here up.writer) in
      let none = subst (λ n. w.wants n page ≡ None) same (subst (λ x. w.wants b x ≡ None) here up.unwanted) in
      let is = can.wanted in
      absurd (cc (none, is)))
      (λ _ _. refl) refl
  unsent_message b (Get p write') later up = refl
  unsent_message b (Ack number count) later up = refl
  unsent_message b m later up = absurd up

  unsent : (b : ℕ) (q : List Msg) → AreUps w b q → none_is (is_back page) q ≡ true
  unsent b [] ups = refl
  unsent b (m ∷ q) ups =
      let first = unsent_message b m q ups.0 in
      let rest = unsent b q ups.1 in none-more (is_back page) m q first rest

  written_read : AreWritten w → AreWritten (begins_read blade page write place w)
  written_read all p at lies clean =
      by-number (λ n t. images_written (w.tos n) (w.images n) at.1 ≡ w.flat p → images_written (if t then w.tos place.0 ++ Read place.1 (Some blade) page ∷ [] else w.tos n) (w.images n) at.1 ≡ w.flat p) at.0 place.0
      (λ known. ap (λ images. images at.1) (written-append (w.tos place.0) (Read place.1 (Some blade) page ∷ []) (w.images place.0)) ∙ known) (λ away known. known) (all p at lies clean)

  read_granted : IsCoherent w → IsCoherent (begins_read blade page write place w)
  read_granted safe =
      let after = begins_read blade page write place w in
      let newest = safe.written page place can.lies (λ b. (undirty safe.frames safe.wanted b, unsent b (w.ups b) (safe.ups b))) in
      let now : is_fetching (after.wants blade page) ≡ true = grind (arith, nat_tests, same_page-refl page) in
      record {
        frames = safe.frames;
        ups = λ b. ups-kept w after b (λ m. false) (λ m later e. ups_read b m later) (w.ups b) (none-never (w.ups b)) (safe.ups b);
        downs = safe.downs;
        answered = answered_read safe.answered;
        wanted = wanted_read safe.wanted;
        fetched = fetched_read safe.fetched;
        called = safe.called;
        fetches = fetches_read safe.fetches;
        numbered = safe.numbered;
        blocks = safe.blocks;
        targets = safe.targets;
        tos = λ memory. by-number (λ n t. AreTos after n (w.images n) (if t then w.tos place.0 ++ Read place.1 (Some blade) page ∷ [] else w.tos n)) memory place.0
            (tos-kept w after place.0 (λ m. false) (Read place.1 (Some blade) page ∷ []) (λ phys b p e at is. (at, refl, fetching_read b p is)) (w.tos place.0) (w.images place.0) (none-never (w.tos place.0))
            (can.lies, newest, now, tt) (safe.tos place.0))
            (λ away. tos-same w after memory (λ m. false) (λ phys b p e at is. (at, refl, fetching_read b p is)) (w.tos memory) (w.images memory) (none-never (w.tos memory)) (safe.tos memory));
        written = written_read safe.written;
        froms = λ memory. froms-same w after memory (λ m. false) (λ m e. froms_read memory m) (w.froms memory) (none-never (w.froms memory)) (safe.froms memory);
        placed = record { apart = safe.placed.apart; placed = safe.placed.placed };
      }

pub grants_it : (w : World) (blade : ℕ) (page : PageView) (write : Bool) (place : ℕ × ℕ) (region : Region) (state : State) → IsCoherent w → May w (GrantsIt blade page write place region state)
    → IsCoherent (moved w (GrantsIt blade page write place region state))
grants_it w blade page write place region state safe can =
    let block = safe.blocks page region can.entry in
    let named = grants_names write region.state state blade can.grants in
    let between = with_regions (put_range region.range (Some (in_state state region)) w.regions) w in
    let now : between.regions page ≡ Some (in_state state region) = ap (λ t. if t then Some (in_state state region) else w.regions page) block.0 in
    let unchanged = λ (b : ℕ). ap (λ o. stays o b) can.idle in
    let unanswered = λ (b : ℕ). ap (λ o. has_not_answered o b) can.idle in
    let fetch : IsFetch (between.regions page) (w.perms page) write blade = subst (λ o. IsFetch o (w.perms page) write blade) (sym now) (record {
      held = and_from _ _ named.named (unchanged blade);
      writer = λ e. and_from _ _ (named.owner e) (unanswered blade);
      idle = can.idle;
      allowed = can.allowed;
    }) in
    let reading : MayRead between blade page write place = record {
      wanted = can.wanted;
      lies = can.lies;
      fetch = fetch;
      alone = λ other h. named.alone other (and_parts (owns state other) (has_not_answered region.busy other) (subst (λ o. may_hold_writable o other ≡ true) now h)).0;
    } in
    read_granted between blade page write place reading (entry_granted w region state blade write block.1 can.idle named safe)
