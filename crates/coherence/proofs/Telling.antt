-- What follows for a log on holdings and directory where the rack is coherent, and how lists of notes tell of it.
use Rattle.std.proofs.Common.{◌≡◌, refl, sym, ◌∙◌, ap, subst, ℕ, Bool, true, false, List, [], ◌∷◌, ◌++◌, fold, Option, Some, None, arith}
use Rattle.std.specs.Prelude.{if◌then◌else◌, is_some, option_map, option_and_then}
use Rattle.std.specs.List.{AllByRecursion}
use Rattle.std.proofs.Math.Path.{fun_ext}
use Rattle.std.proofs.lemmas.Bool.{and_parts, false≢true}
use Rattle.std.proofs.lemmas.Bool.Decides.{nat_tests}
use Rattle.std.proofs.lemmas.List.Sums.{fold-append}
use Rattle.std.proofs.lemmas.Nat.{pow_pos}
use Rattle.std.proofs.lemmas.Option.{none-some, same_Some}
use Rattle.mind_base.specs.Page.{PageView}
use Rattle.mind_base.specs.Range.{RangeView, in_range, same_range}
use Rattle.mind_base.specs.declared.notes.Note.{Note}
use Rattle.mind_base.specs.declared.notes.State.{State}
use Rattle.mind_base.specs.declared.plans.RackPlan.{RackPlan}
use Rattle.mind_base.proofs.Callers.{same_range-refl, same_range-true}
use Rattle.page_cache.specs.declared.frames.Frame.{Frame}
use Rattle.coherence.specs.Facts.{IsCoherent, AreBlocksOf, names, owns, stays, has_not_answered, may, may_hold_writable}
use Rattle.coherence.specs.Held.{Holdings, Entries, held_after, entries_after}
use Rattle.coherence.specs.Lawful.{IsNamed, IsLawful, MayBeNoted, AreLawful, Matches, IsWithin, Tells, first_page, state_in}
use Rattle.coherence.specs.World.{Region, World}
use Rattle.coherence.proofs.BladeMoves.{single_writer}

-- ---- blocks

pub first_page-in : (range : RangeView) → in_range range (first_page range) ≡ true
first_page-in range = grind (arith, nat_tests, pow_pos range.log)

-- ---- what is held and which entries are in force in a world

abbrev pub held_in : World → Holdings
held_in w blade page = option_map (λ frame. frame.writable) (w.frames blade page)

abbrev pub entries_in : World → Entries
entries_in w = state_in w.regions

pub matches-itself : (w : World) → Matches (held_in w) (entries_in w) w
matches-itself w = record { frames = λ blade page. refl; states = λ range. refl }

-- the frame of a page that is held
pub record IsHeld (frame : Option Frame) (writable : Bool) : Type 0 where
  pub found : Frame
  pub at : frame ≡ Some found
  pub is : found.writable ≡ writable

pub is-held : (frame : Option Frame) (writable : Bool) → option_map (λ f. f.writable) frame ≡ Some writable → IsHeld frame writable
is-held None writable e = absurd (none-some writable e)
is-held (Some found) writable e = record { found = found; at = refl; is = same_Some found.writable writable e }

-- the entry of a block in force
pub record HasState (regions : PageView → Option Region) (range : RangeView) (state : State) : Type 0 where
  pub region : Region
  pub at : regions (first_page range) ≡ Some region
  pub block : region.range ≡ range
  pub is : region.state ≡ state

state_of : RangeView → Option Region → Option State
state_of range = option_and_then (λ region. if same_range region.range range then Some region.state else None)

pub has_state : (regions : PageView → Option Region) (range : RangeView) (state : State) → state_in regions range ≡ Some state → HasState regions range state
has_state regions range state e = by (regions (first_page range)) refl e where
  by_block : (region : Region) → regions (first_page range) ≡ Some region → (b : Bool) → same_range region.range range ≡ b
      → (if b then Some region.state else None) ≡ Some state → HasState regions range state
  by_block region at true t h = record { region = region; at = at; block = same_range-true region.range range t; is = same_Some region.state state h }
  by_block region at false t h = absurd (none-some state h)

  by : (o : Option Region) → regions (first_page range) ≡ o → option_and_then (λ region. if same_range region.range range then Some region.state else None) o ≡ Some state
      → HasState regions range state
  by None at h = absurd (none-some state h)
  by (Some region) at h = by_block region at (same_range region.range range) refl h

pub has_some : (regions : PageView → Option Region) (range : RangeView) → is_some (state_in regions range) ≡ true → (state : State) × HasState regions range state
has_some regions range e = by (state_in regions range) refl e where
  by : (o : Option State) → state_in regions range ≡ o → is_some o ≡ true → (state : State) × HasState regions range state
  by None at h = absurd (false≢true h)
  by (Some state) at h = (state, has_state regions range state at)

pub state-found : (regions : PageView → Option Region) (range : RangeView) (region : Region) → regions (first_page range) ≡ Some region → region.range ≡ range
    → state_in regions range ≡ Some region.state
state-found regions range region at block =
    ap (option_and_then (λ r. if same_range r.range range then Some r.state else None)) at
    ∙ ap (λ b. if b then Some region.state else None) (subst (λ r. same_range region.range r ≡ true) block (same_range-refl region.range))

-- ---- where the rack is coherent

named_in : (w : World) (blade : ℕ) (page : PageView) (writable : Bool) → IsCoherent w → held_in w blade page ≡ Some writable → IsNamed (entries_in w) blade page writable
named_in w blade page writable safe is =
    let held = is-held (w.frames blade page) writable is in
    let frame = safe.frames blade page held.found held.at in
    by (w.regions page) refl frame.held (λ t. frame.writer (held.is ∙ t)) where
      by : (o : Option Region) → w.regions page ≡ o → may o blade ≡ true → (writable ≡ true → may_hold_writable o blade ≡ true) → IsNamed (entries_in w) blade page writable
      by None at h writer = absurd (false≢true h)
      by (Some region) at h writer = let block = safe.blocks page region at in record {
        range = region.range;
        state = region.state;
        entry = state-found w.regions region.range region (block.1 (first_page region.range) (first_page-in region.range)) refl;
        within = block.0;
        named = (and_parts (names region.state blade) (stays region.busy blade) h).0;
        owner = λ t. (and_parts (owns region.state blade) (has_not_answered region.busy blade) (writer t)).0;
      }

pub disjoint_in : (regions : PageView → Option Region) (a b : RangeView) (page : PageView) → AreBlocksOf regions
    → is_some (state_in regions a) ≡ true → is_some (state_in regions b) ≡ true → in_range a page ≡ true → in_range b page ≡ true → a ≡ b
disjoint_in regions a b page blocks has_a has_b in_a in_b =
    let one = (has_some regions a has_a).1 in
    let two = (has_some regions b has_b).1 in
    let at_one : regions page ≡ Some one.region = (blocks (first_page a) one.region one.at).1 page (subst (λ r. in_range r page ≡ true) (sym one.block) in_a) in
    let at_two : regions page ≡ Some two.region = (blocks (first_page b) two.region two.at).1 page (subst (λ r. in_range r page ≡ true) (sym two.block) in_b) in
    sym one.block ∙ ap (λ r. r.range) (same_Some one.region two.region (sym at_one ∙ at_two)) ∙ two.block

pub lawful_in : (plan : RackPlan) (w : World) → IsCoherent w → IsWithin plan w → IsLawful plan (held_in w) (entries_in w)
lawful_in plan w safe within = record {
  one_writer = λ a b page writable is_a is_b.
      let one = is-held (w.frames a page) true is_a in
      let two = is-held (w.frames b page) writable is_b in
      single_writer w a b page one.found two.found safe one.at one.is two.at;
  named = λ blade page writable is. named_in w blade page writable safe is;
  disjoint = λ a b page has_a has_b in_a in_b. disjoint_in w.regions a b page safe.blocks has_a has_b in_a in_b;
  slots = λ ranges distinct all. within.slots ranges distinct all;
  frames = λ blade pages distinct all. within.frames blade pages distinct (held_frames blade pages all);
} where
  some_frame : (o : Option Frame) → is_some (option_map (λ f. f.writable) o) ≡ true → is_some o ≡ true
  some_frame None h = h
  some_frame (Some f) h = h

  held_frames : (blade : ℕ) (pages : List PageView) → AllByRecursion (λ page. is_some (held_in w blade page) ≡ true) pages → AllByRecursion (λ page. is_some (w.frames blade page) ≡ true) pages
  held_frames blade [] all = tt
  held_frames blade (page ∷ pages) all = (some_frame (w.frames blade page) all.0, held_frames blade pages all.1)

-- holdings and entries that match a world are those of the world
pub held-matched : (held : Holdings) (entries : Entries) (w : World) → Matches held entries w → held ≡ held_in w
held-matched held entries w m = fun_ext (λ blade. fun_ext (λ page. m.frames blade page))

pub entries-matched : (held : Holdings) (entries : Entries) (w : World) → Matches held entries w → entries ≡ entries_in w
entries-matched held entries w m = fun_ext (λ range. m.states range)

pub lawful_when_coherent : (plan : RackPlan) (held : Holdings) (entries : Entries) (w : World) → IsCoherent w → IsWithin plan w → Matches held entries w → IsLawful plan held entries
lawful_when_coherent plan held entries w safe within m =
    subst (λ h. IsLawful plan h entries) (sym (held-matched held entries w m))
    (subst (λ e. IsLawful plan (held_in w) e) (sym (entries-matched held entries w m)) (lawful_in plan w safe within))

-- ---- lists of notes

-- what is so at the holdings and entries of a world is so at all that match it
pub tells-from : (plan : RackPlan) (old new : World) (noted : List Note)
    → AreLawful plan (held_in old) (entries_in old) noted
    → Matches (fold held_after (held_in old) noted) (fold entries_after (entries_in old) noted) new
    → Tells plan old noted new
tells-from plan old new noted lawful matches held entries m =
    let so : Holdings → Entries → Type 0 = λ h e. AreLawful plan h e noted × Matches (fold held_after h noted) (fold entries_after e noted) new in
    subst (λ h. so h entries) (sym (held-matched held entries old m)) (subst (λ e. so (held_in old) e) (sym (entries-matched held entries old m)) (lawful, matches))

-- a world in which the same pages are held, and the same entries are in force
pub record IsAlike (old new : World) : Type 0 where
  pub held : (blade : ℕ) (page : PageView) → held_in new blade page ≡ held_in old blade page
  pub states : (range : RangeView) → entries_in new range ≡ entries_in old range

pub matches-alike : (held : Holdings) (entries : Entries) (old new : World) → IsAlike old new → Matches held entries old → Matches held entries new
matches-alike held entries old new alike m = record {
  frames = λ blade page. m.frames blade page ∙ sym (alike.held blade page);
  states = λ range. m.states range ∙ sym (alike.states range);
}

pub alike-back : (old new : World) → IsAlike old new → IsAlike new old
alike-back old new alike = record { held = λ blade page. sym (alike.held blade page); states = λ range. sym (alike.states range) }

pub tells_nothing : (plan : RackPlan) (old new : World) → IsAlike old new → Tells plan old [] new
tells_nothing plan old new alike held entries m = (tt, matches-alike held entries old new alike m)

-- laws at every point of two lists, the second from where the first leads to
pub lawful_append : (plan : RackPlan) (held : Holdings) (entries : Entries) (log noted : List Note) → AreLawful plan held entries log
    → AreLawful plan (fold held_after held log) (fold entries_after entries log) noted → AreLawful plan held entries (log ++ noted)
lawful_append plan held entries [] noted first later = later
lawful_append plan held entries (n ∷ log) noted first later =
    (first.0, first.1, lawful_append plan (held_after held n) (entries_after entries n) log noted first.2 later)

-- at each note of a list it may be noted, and what follows is lawful
pub lawful_at_point : (plan : RackPlan) (held : Holdings) (entries : Entries) (before : List Note) (n : Note) (after : List Note) → AreLawful plan held entries (before ++ n ∷ after)
    → MayBeNoted (fold entries_after entries before) n × IsLawful plan (held_after (fold held_after held before) n) (entries_after (fold entries_after entries before) n)
lawful_at_point plan held entries [] n after all = (all.0, all.1)
lawful_at_point plan held entries (m ∷ before) n after all = lawful_at_point plan (held_after held m) (entries_after entries m) before n after all.2

pub lawful_from_points : (plan : RackPlan) (held : Holdings) (entries : Entries) (noted : List Note)
    → ((before : List Note) (n : Note) (after : List Note) → noted ≡ before ++ n ∷ after
    → MayBeNoted (fold entries_after entries before) n × IsLawful plan (held_after (fold held_after held before) n) (entries_after (fold entries_after entries before) n))
    → AreLawful plan held entries noted
lawful_from_points plan held entries [] each = tt
lawful_from_points plan held entries (m ∷ noted) each =
    let first = each [] m noted refl in
    (first.0, first.1, lawful_from_points plan (held_after held m) (entries_after entries m) noted (λ before n after e. each (m ∷ before) n after (ap (λ ns. m ∷ ns) e)))

pub tells_then : (plan : RackPlan) (a b c : World) (first later : List Note) → Tells plan a first b → Tells plan b later c → Tells plan a (first ++ later) c
tells_then plan a b c first later one two held entries m =
    let mid = one held entries m in
    let last = two (fold held_after held first) (fold entries_after entries first) mid.1 in (
      lawful_append plan held entries first later mid.0 last.0,
      subst (λ h. Matches h (fold entries_after entries (first ++ later)) c) (sym (fold-append held_after held first later))
          (subst (λ e. Matches (fold held_after (fold held_after held first) later) e c) (sym (fold-append entries_after entries first later)) last.1),
    )

-- the worlds at both ends may be others that are alike
pub tells-between : (plan : RackPlan) (a b c d : World) (noted : List Note) → IsAlike a b → IsAlike c d → Tells plan b noted c → Tells plan a noted d
tells-between plan a b c d noted first last tells held entries m =
    let told = tells held entries (matches-alike held entries a b first m) in
    (told.0, matches-alike (fold held_after held noted) (fold entries_after entries noted) c d last told.1)
