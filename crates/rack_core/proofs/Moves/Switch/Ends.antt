-- Entries that end their transitions, and the notes of it, one for each.
use Rattle.std.proofs.Common.{◌≡◌, ◌⊎◌, inl, inr, refl, sym, ◌∙◌, ap, subst, ◌==◌, Bool, true, false, List, [], ◌∷◌, ◌++◌, map, Option, Some, None}
use Rattle.std.specs.Prelude.{if◌then◌else◌, is_some, option_map}
use Rattle.std.specs.List.{AllByRecursion, flat_map}
use Rattle.mind_base.specs.Range.{RangeView, in_range, same_range}
use Rattle.mind_base.specs.declared.notes.Note.TheVariants as note
use Rattle.mind_base.specs.declared.plans.RackPlan.{RackPlan}
use Rattle.mind_base.proofs.Callers.{same_range-true}
use Rattle.invalidate_multicast.specs.Transition as transition
use Rattle.invalidate_multicast.specs.Transition.{is_answered, finished, target_of}
use Rattle.region_directory.specs.declared.entries.Busy.{Busy}
use Rattle.region_directory.specs.declared.entries.Entry.{Entry}
use Rattle.switch_core.specs.Handling.{ended, noted_end}
use Rattle.coherence.specs.Facts.{IsCoherent}
use Rattle.coherence.specs.Held.{Entries}
use Rattle.coherence.specs.Lawful.{IsWithin, Tells, first_page, state_in}
use Rattle.coherence.specs.Moves as moves
use Rattle.coherence.specs.World.{Region, World}
use Rattle.coherence.proofs.Callers.{first_page-in, state-found, SetsTo, IsAmongSet, sets_told}
use Rattle.rack_core.specs.Seen.{region_of, region_at}
use Rattle.rack_core.specs.SwitchMoves.{AreEntriesApart}
use Rattle.rack_core.proofs.Moves.Switch.Lookups.{apart-map, first_region, first-got, first-map, region_at-first}
use Rattle.rack_core.proofs.Log.Held.SwitchNotes.{state_of}
use Rattle.rack_core.proofs.Lists.Parts.{all-from_got}

pub ended-range : (e : Entry) → (ended e).range ≡ e.range
ended-range e = by (is_answered e.busy) where
  by : (b : Bool) → (if b then transition.finished e else e).range ≡ e.range
  by true = refl
  by false = refl

pub ended-region : (e : Entry) → region_of (ended e) ≡ moves.ended (region_of e)
ended-region e = by_busy e.busy where
  by_busy : (busy : Option Busy) → region_of (ended (record { range = e.range; state = e.state; busy = busy; hits = e.hits })) ≡ moves.ended (record { range = e.range; state = e.state; busy = busy })
  by_busy None = refl
  by_busy (Some busy) = by (busy.waiting == 0) where
    by : (b : Bool) → region_of (if b then transition.finished (record { range = e.range; state = e.state; busy = Some busy; hits = e.hits }) else record { range = e.range; state = e.state; busy = Some busy; hits = e.hits })
        ≡ (if b then record { range = e.range; state = busy.target; busy = None } else record { range = e.range; state = e.state; busy = Some busy })
    by true = refl
    by false = refl

-- ---- the notes

all-of_map : {X : Type 0} (P : X → Type 0) (f : X → X) (xs : List X) → AllByRecursion P (map f xs) → AllByRecursion (λ x. P (f x)) xs
all-of_map P f [] h = tt
all-of_map P f (x ∷ xs) h = (h.0, all-of_map P f xs h.1)

-- each entry is the one that its block has
all-in_force : (es : List Entry) → AreEntriesApart es → AllByRecursion (λ e. state_in (region_at es) e.range ≡ Some e.state) es
all-in_force es apart = all-from_got (λ e. state_in (region_at es) e.range ≡ Some e.state) es (λ i e at.
    state-found (region_at es) e.range (region_of e) (region_at-first es (first_page e.range) ∙ first-got es i e (first_page e.range) apart at (first_page-in e.range)) refl)

-- each note sets what is there at the end
sets-all : (last : Entries) (es : List Entry) → AllByRecursion (λ e. last (ended e).range ≡ Some (ended e).state) es → AllByRecursion (SetsTo last) (flat_map noted_end es)
sets-all last [] all = tt
sets-all last (e ∷ es) all = by (is_answered e.busy) all.0 (sets-all last es all.1) where
  by : (b : Bool) → last (if b then finished e else e).range ≡ Some (if b then finished e else e).state → AllByRecursion (SetsTo last) (flat_map noted_end es)
      → AllByRecursion (SetsTo last) ((if b then note.Region e.range (target_of e e.busy) ∷ [] else []) ++ flat_map noted_end es)
  by true is rest = (is, rest)
  by false is rest = rest

-- an entry is as it is at the end, or is noted
reaches : (es : List Entry) (range : RangeView)
    → (state_of range (first_region es (first_page range)) ≡ state_of range (first_region (map ended es) (first_page range))) ⊎ IsAmongSet range (flat_map noted_end es)
reaches [] range = inl refl
reaches (e ∷ es) range = by (is_answered e.busy) (in_range e.range (first_page range)) refl (reaches es range) where
  first_after : Bool → Option Region
  first_after b = if in_range (if b then finished e else e).range (first_page range) then Some (region_of (if b then finished e else e)) else first_region (map ended es) (first_page range)

  notes_after : Bool → List Rattle.mind_base.specs.declared.notes.Note.Note
  notes_after b = (if b then note.Region e.range (target_of e e.busy) ∷ [] else []) ++ flat_map noted_end es

  -- of another block, whatever its state is
  elsewhere : (t : Bool) → same_range e.range range ≡ t
      → ((if t then Some e.state else None) ≡ (if t then Some (target_of e e.busy) else None)) ⊎ IsAmongSet range (notes_after true)
  elsewhere true same = inr (inl (same_range-true e.range range same))
  elsewhere false same = inl refl

  by : (b t : Bool) → in_range e.range (first_page range) ≡ t
      → (state_of range (first_region es (first_page range)) ≡ state_of range (first_region (map ended es) (first_page range))) ⊎ IsAmongSet range (flat_map noted_end es)
      → (state_of range (if t then Some (region_of e) else first_region es (first_page range)) ≡ state_of range (first_after b)) ⊎ IsAmongSet range (notes_after b)
  by true true within rest = subst (λ t. (state_of range (Some (region_of e)) ≡ state_of range (if t then Some (region_of (finished e)) else first_region (map ended es) (first_page range))) ⊎ IsAmongSet range (notes_after true))
      (sym within) (elsewhere (same_range e.range range) refl)
  by false true within rest = inl (ap (λ t. state_of range (if t then Some (region_of e) else first_region (map ended es) (first_page range))) (sym within))
  by true false away (inl same) = inl (same ∙ ap (λ t. state_of range (if t then Some (region_of (finished e)) else first_region (map ended es) (first_page range))) (sym away))
  by true false away (inr later) = inr (inr later)
  by false false away (inl same) = inl (same ∙ ap (λ t. state_of range (if t then Some (region_of e) else first_region (map ended es) (first_page range))) (sym away))
  by false false away (inr later) = inr later

-- ending keeps blocks
same-blocks : (range : RangeView) (o : Option Region) → is_some (state_of range o) ≡ is_some (state_of range (option_map moves.ended o))
same-blocks range None = refl
same-blocks range (Some region) = by_busy region.busy where
  by_state : (t : Bool) → (now : Rattle.mind_base.specs.declared.notes.State.State) → is_some (if t then Some region.state else None) ≡ is_some (if t then Some now else None)
  by_state true now = refl
  by_state false now = refl

  by_busy : (busy : Option Busy) → is_some (state_of range (Some region)) ≡ is_some (state_of range (Some (moves.ended (record { range = region.range; state = region.state; busy = busy }))))
  by_busy None = refl
  by_busy (Some busy) = by (busy.waiting == 0) where
    by : (b : Bool) → is_some (state_of range (Some region))
        ≡ is_some (state_of range (Some (if b then record { range = region.range; state = busy.target; busy = None } else record { range = region.range; state = region.state; busy = Some busy })))
    by true = by_state (same_range region.range range) busy.target
    by false = refl

-- entries that end their transitions are told of by their notes, where the rack is coherent before and after
pub ends_told : (plan : RackPlan) (old new : World) (es : List Entry) → IsCoherent old → IsWithin plan old → IsCoherent new → IsWithin plan new
    → new.frames ≡ old.frames → new.regions ≡ region_at (map ended es) → ((range : RangeView) → state_in old.regions range ≡ state_of range (first_region es (first_page range))) → AreEntriesApart es
    → Tells plan old (flat_map noted_end es) new
ends_told plan old new es safe within safe_then within_then frames regions same apart =
    let last : (range : RangeView) → state_in new.regions range ≡ state_of range (first_region (map ended es) (first_page range)) = λ range.
    ap (λ r. state_in r range) regions ∙ ap (state_of range) (region_at-first (map ended es) (first_page range)) in
    let mapped : (range : RangeView) → first_region (map ended es) (first_page range) ≡ option_map moves.ended (first_region es (first_page range)) = λ range.
    first-map ended moves.ended es (first_page range) ended-range ended-region in
    sets_told plan old new (flat_map noted_end es) safe within safe_then within_then frames
    (λ range. ap is_some (same range) ∙ same-blocks range (first_region es (first_page range)) ∙ sym (ap (λ o. is_some (state_of range o)) (mapped range)) ∙ sym (ap is_some (last range)))
    (sets-all (state_in new.regions) es (all-of_map (λ e. state_in new.regions e.range ≡ Some e.state) ended es
    (subst (λ r. AllByRecursion (λ e. state_in r e.range ≡ Some e.state) (map ended es)) (sym regions) (all-in_force (map ended es) (apart-map ended es ended-range apart)))))
    (λ range. by range (reaches es range) (same range) (last range)) where
      by : (range : RangeView) → (state_of range (first_region es (first_page range)) ≡ state_of range (first_region (map ended es) (first_page range))) ⊎ IsAmongSet range (flat_map noted_end es)
          → state_in old.regions range ≡ state_of range (first_region es (first_page range)) → state_in new.regions range ≡ state_of range (first_region (map ended es) (first_page range))
          → (state_in old.regions range ≡ state_in new.regions range) ⊎ IsAmongSet range (flat_map noted_end es)
      by range (inl e) first last = inl (first ∙ e ∙ sym last)
      by range (inr e) first last = inr e
