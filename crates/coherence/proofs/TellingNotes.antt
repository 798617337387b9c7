-- What one note of each kind tells, where it leads to a coherent rack.
use Rattle.std.proofs.Common.{◌≡◌, refl, sym, ◌∙◌, ap, subst, ℕ, ◌==◌, Bool, true, false, ◌&&◌, [], ◌∷◌, Option, Some, None}
use Rattle.std.specs.Prelude.{if◌then◌else◌, is_some, IfSome, option_map, option_and_then}
use Rattle.mind_base.specs.Page.{PageView}
use Rattle.mind_base.specs.Range.{RangeView, in_range, same_range}
use Rattle.mind_base.specs.declared.notes.Note.{Note}
use Rattle.mind_base.specs.declared.notes.Note.TheVariants as note
use Rattle.mind_base.specs.declared.notes.State.{State}
use Rattle.mind_base.specs.declared.plans.RackPlan.{RackPlan}
use Rattle.mind_base.proofs.Callers.{same_range-refl, same_range-true}
use Rattle.page_cache.specs.PageCache.{same_page}
use Rattle.page_cache.specs.declared.frames.Frame.{Frame}
use Rattle.coherence.specs.Facts.{IsCoherent}
use Rattle.coherence.specs.Held.{held_after, entries_after, put_entry}
use Rattle.coherence.specs.Lawful.{MayBeNoted, Matches, IsWithin, Tells, first_page, state_in}
use Rattle.coherence.specs.World.{Region, World, put_both, put_range}
use Rattle.coherence.proofs.Changes.{by-test}
use Rattle.coherence.proofs.Keys.{AtBoth, Here, Away, at_both, put_both-here, put_both-away}
use Rattle.coherence.proofs.Telling.{IsAlike, held_in, entries_in, first_page-in, lawful_when_coherent, tells-from}

-- ---- any note

pub tells_one : (plan : RackPlan) (old new : World) (n : Note) → IsCoherent new → IsWithin plan new → MayBeNoted (entries_in old) n
    → ((blade : ℕ) (page : PageView) → held_in new blade page ≡ held_after (held_in old) n blade page)
    → ((range : RangeView) → entries_in new range ≡ entries_after (entries_in old) n range)
    → Tells plan old (n ∷ []) new
tells_one plan old new n safe within may held states =
    let matches : Matches (held_after (held_in old) n) (entries_after (entries_in old) n) new = record { frames = λ blade page. sym (held blade page); states = λ range. sym (states range) } in
    tells-from plan old new (n ∷ []) (may, lawful_when_coherent plan (held_after (held_in old) n) (entries_after (entries_in old) n) new safe within matches, tt) matches

-- ---- frames

abbrev pub writable_of : Option Frame → Option Bool
writable_of frame = option_map (λ f. f.writable) frame

-- one frame changes
pub held-put : (blade : ℕ) (page : PageView) (frame : Option Frame) (frames : ℕ → PageView → Option Frame) (b : ℕ) (p : PageView)
    → writable_of (put_both blade page frame frames b p) ≡ put_both blade page (writable_of frame) (λ n q. writable_of (frames n q)) b p
held-put blade page frame frames b p = by (b == blade && same_page p page) where
  by : (t : Bool) → writable_of (if t then frame else frames b p) ≡ (if t then writable_of frame else writable_of (frames b p))
  by true = refl
  by false = refl

pub held-changed : (old new : World) (blade : ℕ) (page : PageView) (frame : Option Frame) (writable : Option Bool) → new.frames ≡ put_both blade page frame old.frames → writable_of frame ≡ writable
    → (b : ℕ) (p : PageView) → held_in new b p ≡ put_both blade page writable (held_in old) b p
held-changed old new blade page frame writable frames is b p =
    ap (λ f. writable_of (f b p)) frames ∙ held-put blade page frame old.frames b p ∙ ap (λ o. put_both blade page o (held_in old) b p) is

-- a frame that changes, and is as writable as before
pub alike-changed : (old new : World) (blade : ℕ) (page : PageView) (was now : Frame) → new.frames ≡ put_both blade page (Some now) old.frames → old.frames blade page ≡ Some was → now.writable ≡ was.writable
    → new.regions ≡ old.regions → IsAlike old new
alike-changed old new blade page was now frames at same regions = record {
  held = λ b p. held-changed old new blade page (Some now) (Some was.writable) frames (ap Some same) b p ∙ by b p (at_both blade page b p);
  states = λ range. ap (λ r. state_in r range) regions;
} where
  by : (b : ℕ) (p : PageView) → AtBoth blade page b p → put_both blade page (Some was.writable) (held_in old) b p ≡ held_in old b p
  by b p (Here n q) = subst (λ k. put_both blade page (Some was.writable) (held_in old) k p ≡ held_in old k p) n
      (subst (λ o. put_both blade page (Some was.writable) (held_in old) blade o ≡ held_in old blade o) q
      (put_both-here blade page (Some was.writable) (held_in old) ∙ sym (ap writable_of at)))
  by b p (Away e) = put_both-away blade page (Some was.writable) (held_in old) b p e

-- the same frames and entries
pub alike-same : (old new : World) → new.frames ≡ old.frames → new.regions ≡ old.regions → IsAlike old new
alike-same old new frames regions = record { held = λ b p. ap (λ f. writable_of (f b p)) frames; states = λ range. ap (λ r. state_in r range) regions }

-- a page is taken
pub take_told : (plan : RackPlan) (old new : World) (blade : ℕ) (page : PageView) (frame : Frame) (writable : Bool) → IsCoherent new → IsWithin plan new
    → new.frames ≡ put_both blade page (Some frame) old.frames → frame.writable ≡ writable → new.regions ≡ old.regions → Tells plan old (note.Take blade page writable ∷ []) new
take_told plan old new blade page frame writable safe within frames is regions =
    tells_one plan old new (note.Take blade page writable) safe within tt (λ b p. held-changed old new blade page (Some frame) (Some writable) frames (ap Some is) b p) (λ range. ap (λ r. state_in r range) regions)

-- it is given up
pub give_told : (plan : RackPlan) (old new : World) (blade : ℕ) (page : PageView) → IsCoherent new → IsWithin plan new
    → new.frames ≡ put_both blade page None old.frames → new.regions ≡ old.regions → Tells plan old (note.Give blade page ∷ []) new
give_told plan old new blade page safe within frames regions =
    tells_one plan old new (note.Give blade page) safe within tt (λ b p. held-changed old new blade page None None frames refl b p) (λ range. ap (λ r. state_in r range) regions)

-- it may be written no longer
pub down_told : (plan : RackPlan) (old new : World) (blade : ℕ) (page : PageView) (was now : Frame) → IsCoherent new → IsWithin plan new
    → new.frames ≡ put_both blade page (Some now) old.frames → old.frames blade page ≡ Some was → now.writable ≡ false → new.regions ≡ old.regions → Tells plan old (note.Down blade page ∷ []) new
down_told plan old new blade page was now safe within frames at is regions =
    let lowered : writable_of (Some now) ≡ option_map (λ writable. false) (held_in old blade page) = ap Some is ∙ sym (ap (λ o. option_map (λ writable. false) (writable_of o)) at) in
    tells_one plan old new (note.Down blade page) safe within tt (λ b p. held-changed old new blade page (Some now) (option_map (λ writable. false) (held_in old blade page)) frames lowered b p) (λ range. ap (λ r. state_in r range) regions)

-- ---- an instruction or a store takes effect

pub exec_told : (plan : RackPlan) (old new : World) (hart : ℕ) → IsCoherent new → IsWithin plan new → IsAlike old new → Tells plan old (note.Exec hart ∷ []) new
exec_told plan old new hart safe within alike = tells_one plan old new (note.Exec hart) safe within tt alike.held alike.states

pub drain_told : (plan : RackPlan) (old new : World) (hart : ℕ) → IsCoherent new → IsWithin plan new → IsAlike old new → Tells plan old (note.Drain hart ∷ []) new
drain_told plan old new hart safe within alike = tells_one plan old new (note.Drain hart) safe within tt alike.held alike.states

-- ---- entries

-- each page of the block has an entry of the block, or none
abbrev pub AreOfBlock : (PageView → Option Region) → RangeView → Type 0
AreOfBlock regions range = (page : PageView) → in_range range page ≡ true → IfSome (regions page) (λ was. was.range ≡ range)

-- the state that another block has from an entry of this one
not_of_it : (o : Option Region) (range other : RangeView) → IfSome o (λ r. r.range ≡ range) → same_range range other ≡ false
    → option_and_then (λ r. if same_range r.range other then Some r.state else None) o ≡ None
not_of_it None range other is away = refl
not_of_it (Some r) range other is away = ap (λ b. if b then Some r.state else None) (ap (λ x. same_range x other) is ∙ away)

of_it : (o : Option Region) (range : RangeView) → IfSome o (λ r. r.range ≡ range)
    → option_and_then (λ r. if same_range r.range range then Some r.state else None) o ≡ option_map (λ r. r.state) o
of_it None range is = refl
of_it (Some r) range is = ap (λ b. if b then Some r.state else None) (ap (λ x. same_range x range) is ∙ same_range-refl range)

-- one block's entry becomes this one, or none
pub entries-put : (regions : PageView → Option Region) (range : RangeView) (entry : Option Region) → IfSome entry (λ r. r.range ≡ range) → AreOfBlock regions range
    → (other : RangeView) → state_in (put_range range entry regions) other ≡ put_entry range (option_map (λ r. r.state) entry) (state_in regions) other
entries-put regions range entry is was other =
    by-test (λ t. same_range range other ≡ t → state_in (put_range range entry regions) other ≡ (if t then option_map (λ r. r.state) entry else state_in regions other)) (same_range range other)
    (λ _ t. subst (λ x. state_in (put_range range entry regions) x ≡ option_map (λ r. r.state) entry) (same_range-true range other t)
    (ap (λ b. option_and_then (λ r. if same_range r.range range then Some r.state else None) (if b then entry else regions (first_page range))) (first_page-in range) ∙ of_it entry range is))
    (λ _ away. by-test (λ t. in_range range (first_page other) ≡ t
    → option_and_then (λ r. if same_range r.range other then Some r.state else None) (if t then entry else regions (first_page other)) ≡ state_in regions other) (in_range range (first_page other))
    (λ _ within. not_of_it entry range other is away ∙ sym (not_of_it (regions (first_page other)) range other (was (first_page other) within) away))
    (λ _ _. refl) refl)
    refl

-- an entry is put in, or changes its state
pub region_told : (plan : RackPlan) (old new : World) (range : RangeView) (state : State) (region : Region) → IsCoherent new → IsWithin plan new → new.frames ≡ old.frames
    → new.regions ≡ put_range range (Some region) old.regions → region.range ≡ range → region.state ≡ state → AreOfBlock old.regions range → Tells plan old (note.Region range state ∷ []) new
region_told plan old new range state region safe within frames regions block is was =
    tells_one plan old new (note.Region range state) safe within tt (λ b p. ap (λ f. writable_of (f b p)) frames)
    (λ other. ap (λ r. state_in r other) regions ∙ entries-put old.regions range (Some region) block was other ∙ ap (λ s. put_entry range (Some s) (entries_in old) other) is)

-- an entry is dropped
pub gone_told : (plan : RackPlan) (old new : World) (range : RangeView) → IsCoherent new → IsWithin plan new → new.frames ≡ old.frames
    → new.regions ≡ put_range range None old.regions → AreOfBlock old.regions range → is_some (entries_in old range) ≡ true → Tells plan old (note.Gone range ∷ []) new
gone_told plan old new range safe within frames regions was there =
    tells_one plan old new (note.Gone range) safe within there (λ b p. ap (λ f. writable_of (f b p)) frames)
    (λ other. ap (λ r. state_in r other) regions ∙ entries-put old.regions range None tt was other)
