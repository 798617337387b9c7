-- The laws of a log on holdings and directory, at every point of it.
use Rattle.std.specs.Prelude.{◌≡◌, ℕ, ◌≤◌, Bool, true, List, [], ◌∷◌, length, fold, slice_get, Option, Some, None, is_some, option_map, option_and_then, unwrap_or, if◌then◌else◌}
use Rattle.std.specs.List.{AllByRecursion, IsDistinct}
use Rattle.mind_base.specs.Page.{PageView}
use Rattle.mind_base.specs.Range.{RangeView, in_range, halves_of, same_range}
use Rattle.mind_base.specs.declared.notes.Note.{Note}
use Rattle.mind_base.specs.declared.notes.Note.TheVariants as note
use Rattle.mind_base.specs.declared.notes.State.{State}
use Rattle.mind_base.specs.declared.plans.RackPlan.{RackPlan}
use Rattle.page_cache.specs.PageCache.{same_page}
use Rattle.coherence.specs.Facts.{names, owns}
use Rattle.coherence.specs.Held.{Holdings, Entries, held_after, entries_after, joint_state}
use Rattle.coherence.specs.World.{Region, World}

-- ---- at one point

-- the page lies in an entry in force that names the blade, as owner if the page is held to write
pub record IsNamed (entries : Entries) (blade : ℕ) (page : PageView) (writable : Bool) : Type 0 where
  pub range : RangeView
  pub state : State
  pub entry : entries range ≡ Some state
  pub within : in_range range page ≡ true
  pub named : names state blade ≡ true
  pub owner : writable ≡ true → owns state blade ≡ true

-- the frames of a blade; a blade that the rack does not have has none
abbrev pub frames_of : RackPlan → ℕ → ℕ
frames_of plan blade = unwrap_or (slice_get plan.frames blade) 0

-- A page that a blade holds to write is held by no other. Each page that is held lies in an entry that names its
-- blade. No page lies in two entries. There are at most as many entries as slots, and each blade holds at most as
-- many pages as it has frames.
pub record IsLawful (plan : RackPlan) (held : Holdings) (entries : Entries) : Type 0 where
  pub one_writer : (a b : ℕ) (page : PageView) (writable : Bool) → held a page ≡ Some true → held b page ≡ Some writable → a ≡ b
  pub named : (blade : ℕ) (page : PageView) (writable : Bool) → held blade page ≡ Some writable → IsNamed entries blade page writable
  pub disjoint : (a b : RangeView) (page : PageView) → is_some (entries a) ≡ true → is_some (entries b) ≡ true
      → in_range a page ≡ true → in_range b page ≡ true → a ≡ b
  pub slots : (ranges : List RangeView) → IsDistinct same_range ranges → AllByRecursion (λ range. is_some (entries range) ≡ true) ranges → length ranges ≤ plan.slots
  pub frames : (blade : ℕ) (pages : List PageView) → IsDistinct same_page pages → AllByRecursion (λ page. is_some (held blade page) ≡ true) pages → length pages ≤ frames_of plan blade

-- ---- a note

-- Gone names an entry in force, Split one of more than one page, and Merge a block whose halves are in force in states
-- that go together.
abbrev pub MayBeNoted : Entries → Note → Type 0
MayBeNoted entries (note.Gone range) = is_some (entries range) ≡ true
MayBeNoted entries (note.Split range) = (is_some (entries range) ≡ true) × (is_some (halves_of range) ≡ true)
MayBeNoted entries (note.Merge range) = is_some (option_and_then (joint_state entries) (halves_of range)) ≡ true
MayBeNoted entries note = Unit {0}

-- ---- at every point

-- from a point on at which this is held and these entries are in force
abbrev pub AreLawful : RackPlan → Holdings → Entries → List Note → Type 0
AreLawful plan held entries [] = Unit {0}
AreLawful plan held entries (note ∷ notes) = MayBeNoted entries note
    × IsLawful plan (held_after held note) (entries_after entries note)
    × AreLawful plan (held_after held note) (entries_after entries note) notes

-- ---- a log and what is there

abbrev pub first_page : RangeView → PageView
first_page range = record { domain = range.domain; number = range.base }

-- the state of the entry of this block
abbrev pub state_in : (PageView → Option Region) → RangeView → Option State
state_in regions range =
    option_and_then (λ region. if same_range region.range range then Some region.state else None) (regions (first_page range))

-- The pages that are held are those in the frames, and the entries in force those of the directory.
pub record Matches (held : Holdings) (entries : Entries) (w : World) : Type 0 where
  pub frames : (blade : ℕ) (page : PageView) → held blade page ≡ option_map (λ frame. frame.writable) (w.frames blade page)
  pub states : (range : RangeView) → entries range ≡ state_in w.regions range

-- no blade holds more pages than it has frames, and no more entries are there than slots
pub record IsWithin (plan : RackPlan) (w : World) : Type 0 where
  pub slots : (ranges : List RangeView) → IsDistinct same_range ranges → AllByRecursion (λ range. is_some (state_in w.regions range) ≡ true) ranges → length ranges ≤ plan.slots
  pub frames : (blade : ℕ) (pages : List PageView) → IsDistinct same_page pages → AllByRecursion (λ page. is_some (w.frames blade page) ≡ true) pages → length pages ≤ frames_of plan blade

-- the notes tell, lawfully, how one world came from the other
abbrev pub Tells : RackPlan → World → List Note → World → Type 0
Tells plan old noted new = (held : Holdings) (entries : Entries) → Matches held entries old
    → AreLawful plan held entries noted × Matches (fold held_after held noted) (fold entries_after entries noted) new
