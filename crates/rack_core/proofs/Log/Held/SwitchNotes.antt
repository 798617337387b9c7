-- What the notes of the switch are to tell, and that its entries are no more than its slots.
use Rattle.std.proofs.Common.{◌≡◌, refl, sym, ◌∙◌, ap, subst, ℕ, ◌≤◌, Bool, true, false, ◌||◌, List, [], ◌∷◌, length, map, arith, Option, Some, None}
use Rattle.std.specs.Prelude.{if◌then◌else◌, is_some, option_and_then}
use Rattle.std.specs.List.{AllByRecursion, IsDistinct}
use Rattle.std.specs.Set.{is_member}
use Rattle.std.proofs.lemmas.Bool.{false≢true}
use Rattle.std.proofs.lemmas.List.{length-map}
use Rattle.std.proofs.lemmas.Map.Made.{length-le_from_is_member}
use Rattle.mind_base.specs.Page.{PageView}
use Rattle.mind_base.specs.Range.{RangeView, in_range, same_range}
use Rattle.mind_base.specs.declared.notes.State.{State}
use Rattle.mind_base.specs.declared.plans.RackPlan.{RackPlan}
use Rattle.mind_base.proofs.Callers.{same_range-flip, same_range-laws, same_range-true}
use Rattle.page_cache.specs.PageCache.{same_page}
use Rattle.region_directory.specs.declared.entries.Entry.{Entry}
use Rattle.switch_core.specs.Switch.{SwitchView, SwitchEffect}
use Rattle.coherence.specs.Facts.{IsCoherent}
use Rattle.coherence.specs.Lawful.{IsWithin, Tells, first_page, frames_of, state_in}
use Rattle.coherence.specs.World.{Region, World}
use Rattle.rack_core.specs.Seen.{region_of, region_at}
use Rattle.rack_core.specs.SwitchMoves.{shown, HasSlots}
use Rattle.rack_core.proofs.Moves.Switch.Lookups.{first_region, region_at-first}
use Rattle.rack_core.proofs.Lists.Parts.{all-member}

-- ---- the entries in force are no more than the directory's

-- the state that a block has from the entry of a page
abbrev pub state_of : RangeView → Option Region → Option State
state_of range region = option_and_then (λ r. if same_range r.range range then Some r.state else None) region

-- a block that is in force is the block of an entry
has_entry : (es : List Entry) (range : RangeView) → is_some (state_of range (first_region es (first_page range))) ≡ true → is_member same_range (map (λ e. e.range) es) range ≡ true
has_entry [] range h = absurd (false≢true h)
has_entry (e ∷ es) range h = by (in_range e.range (first_page range)) h (λ g. has_entry es range g) where
  found : (t : Bool) → same_range e.range range ≡ t → is_some (if t then Some e.state else None) ≡ true → is_member same_range (e.range ∷ map (λ x. x.range) es) range ≡ true
  found true same g = ap (λ b. b || is_member same_range (map (λ x. x.range) es) range) (same_range-flip e.range range same)
  found false same g = absurd (false≢true g)

  later : (b : Bool) → is_member same_range (map (λ x. x.range) es) range ≡ true → (b || is_member same_range (map (λ x. x.range) es) range) ≡ true
  later true g = refl
  later false g = g

  by : (t : Bool) → is_some (state_of range (if t then Some (region_of e) else first_region es (first_page range))) ≡ true
      → (is_some (state_of range (first_region es (first_page range))) ≡ true → is_member same_range (map (λ x. x.range) es) range ≡ true)
      → is_member same_range (e.range ∷ map (λ x. x.range) es) range ≡ true
  by true g rest = found (same_range e.range range) refl g
  by false g rest = later (same_range range e.range) (rest g)

pub in_force-few : (es : List Entry) (ranges : List RangeView) → IsDistinct same_range ranges → AllByRecursion (λ range. is_some (state_in (region_at es) range) ≡ true) ranges → length ranges ≤ length es
in_force-few es ranges distinct all =
    let blocks : List RangeView = map (λ e. e.range) es in
    let few : length ranges ≤ length blocks = length-le_from_is_member same_range-laws ranges blocks distinct (λ range m. has_entry es range
    (ap (λ o. is_some (state_of range o)) (sym (region_at-first es (first_page range))) ∙ all-member same_range same_range-true (λ r. is_some (state_in (region_at es) r) ≡ true) ranges range all m)) in
    omega (arith, few, length-map es (λ e. e.range))

-- ---- counts

-- no blade holds more pages than it has frames
abbrev pub HoldsWithin : RackPlan → World → Type 0
HoldsWithin plan w = (blade : ℕ) (pages : List PageView) → IsDistinct same_page pages → AllByRecursion (λ page. is_some (w.frames blade page) ≡ true) pages → length pages ≤ frames_of plan blade

pub within_slots : (plan : RackPlan) (w : World) (switch : SwitchView) → w.regions ≡ region_at switch.directory.entries → HoldsWithin plan w → HasSlots plan switch → IsWithin plan w
within_slots plan w switch regions holds slots = record {
  slots = λ ranges distinct all.
      let few : length ranges ≤ length switch.directory.entries = in_force-few switch.directory.entries ranges distinct
      (subst (λ r. AllByRecursion (λ range. is_some (state_in r range) ≡ true) ranges) regions all) in
      omega (arith, few, slots.room);
  frames = λ blade pages distinct all. holds blade pages distinct all;
}

-- ---- what an effect notes

-- the notes of an effect of the switch tell of it, from a world in which its message was not taken yet, and the entries
-- are then no more than the slots
abbrev pub IsTold : World → World → SwitchView → SwitchEffect → Type 0
IsTold w taken switch effect = (plan : RackPlan) → IsCoherent w → IsCoherent (shown taken effect) → HoldsWithin plan w → HasSlots plan switch
    → HasSlots plan effect.switch × Tells plan w effect.noted (shown taken effect)
