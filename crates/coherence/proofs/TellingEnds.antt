-- Entries that change their states one after another, each from what it was to what it becomes at the end.
use Rattle.std.proofs.Common.{◌≡◌, ◌⊎◌, inl, inr, refl, sym, ◌∙◌, ap, subst, ℕ, Bool, true, false, List, [], ◌∷◌, fold, Option, Some}
use Rattle.std.specs.Prelude.{if◌then◌else◌, is_some, option_map}
use Rattle.std.specs.List.{AllByRecursion}
use Rattle.mind_base.specs.Page.{PageView}
use Rattle.mind_base.specs.Range.{RangeView, same_range}
use Rattle.mind_base.specs.declared.notes.Note.{Note}
use Rattle.mind_base.specs.declared.notes.Note.TheVariants as note
use Rattle.mind_base.specs.declared.notes.State.{State}
use Rattle.mind_base.specs.declared.plans.RackPlan.{RackPlan}
use Rattle.mind_base.proofs.Callers.{same_range-refl, same_range-true}
use Rattle.coherence.specs.Facts.{IsCoherent}
use Rattle.coherence.specs.Held.{Holdings, Entries, held_after, entries_after, put_entry}
use Rattle.coherence.specs.Lawful.{IsNamed, IsLawful, AreLawful, IsWithin, Tells}
use Rattle.coherence.specs.World.{World}
use Rattle.coherence.proofs.Telling.{held_in, entries_in, lawful_in, tells-from}

-- ---- between two lawful points

-- the same blocks have entries
abbrev pub AreSameBlocks : Entries → Entries → Type 0
AreSameBlocks a b = (range : RangeView) → is_some (a range) ≡ is_some (b range)

-- each entry is as it is in the one or in the other
abbrev pub IsBetween : Entries → Entries → Entries → Type 0
IsBetween a b now = (range : RangeView) → (now range ≡ a range) ⊎ (now range ≡ b range)

is-there : (o : Option State) (state : State) → o ≡ Some state → is_some o ≡ true
is-there o state e = ap is_some e

-- where a and b are lawful, what is between them is
module _ (plan : RackPlan) (held : Holdings) (a b now : Entries) (one : IsLawful plan held a) (other : IsLawful plan held b) (blocks : AreSameBlocks a b) (between : IsBetween a b now) where
  blocks_now : (range : RangeView) → is_some (now range) ≡ is_some (a range)
  blocks_now range = by (between range) where
    by : (now range ≡ a range) ⊎ (now range ≡ b range) → is_some (now range) ≡ is_some (a range)
    by (inl e) = ap is_some e
    by (inr e) = ap is_some e ∙ sym (blocks range)

  named_now : (blade : ℕ) (page : PageView) (writable : Bool) → held blade page ≡ Some writable → IsNamed now blade page writable
  named_now blade page writable is =
      let first = one.named blade page writable is in
      let last = other.named blade page writable is in
      let same : first.range ≡ last.range = other.disjoint first.range last.range page
      (sym (blocks first.range) ∙ ap is_some first.entry) (ap is_some last.entry) first.within last.within in
      by first last same (between first.range) where
        by : (first : IsNamed a blade page writable) (last : IsNamed b blade page writable) → first.range ≡ last.range
            → (now first.range ≡ a first.range) ⊎ (now first.range ≡ b first.range) → IsNamed now blade page writable
        by first last same (inl e) = record { range = first.range; state = first.state; entry = e ∙ first.entry; within = first.within; named = first.named; owner = first.owner }
        by first last same (inr e) = record { range = first.range; state = last.state; entry = e ∙ ap b same ∙ last.entry; within = first.within; named = last.named; owner = last.owner }

  all_now : (ranges : List RangeView) → AllByRecursion (λ range. is_some (now range) ≡ true) ranges → AllByRecursion (λ range. is_some (a range) ≡ true) ranges
  all_now [] all = tt
  all_now (range ∷ ranges) all = (sym (blocks_now range) ∙ all.0, all_now ranges all.1)

  pub lawful_between : IsLawful plan held now
  lawful_between = record {
    one_writer = λ x y page writable is_x is_y. one.one_writer x y page writable is_x is_y;
    named = λ blade page writable is. named_now blade page writable is;
    disjoint = λ x y page has_x has_y in_x in_y. one.disjoint x y page (sym (blocks_now x) ∙ has_x) (sym (blocks_now y) ∙ has_y) in_x in_y;
    slots = λ ranges distinct all. one.slots ranges distinct (all_now ranges all);
    frames = λ blade pages distinct all. one.frames blade pages distinct all;
  }

-- ---- notes of entries that become what they are at the end

abbrev pub SetsTo : Entries → Note → Type 0
SetsTo last (note.Region range state) = last range ≡ Some state
SetsTo last n = ⊥

-- the note is of this block
abbrev pub IsOf : RangeView → Note → Type 0
IsOf range (note.Region other state) = other ≡ range
IsOf range n = ⊥

abbrev pub IsAmongSet : RangeView → List Note → Type 0
IsAmongSet range [] = ⊥
IsAmongSet range (n ∷ notes) = IsOf range n ⊎ IsAmongSet range notes

-- such a note leaves an entry as it is, or sets it to what it is at the end
set-cases : (last now : Entries) (range : RangeView) (state : State) → last range ≡ Some state → (other : RangeView)
    → (put_entry range (Some state) now other ≡ now other) ⊎ (put_entry range (Some state) now other ≡ last other)
set-cases last now range state sets other = by (same_range range other) refl where
  by : (t : Bool) → same_range range other ≡ t → ((if t then Some state else now other) ≡ now other) ⊎ ((if t then Some state else now other) ≡ last other)
  by true e = inr (sym sets ∙ ap last (same_range-true range other e))
  by false e = inl refl

set-between : (first last now : Entries) (range : RangeView) (state : State) → last range ≡ Some state → IsBetween first last now → IsBetween first last (put_entry range (Some state) now)
set-between first last now range state sets between other = by (set-cases last now range state sets other) (between other) where
  by : (put_entry range (Some state) now other ≡ now other) ⊎ (put_entry range (Some state) now other ≡ last other) → (now other ≡ first other) ⊎ (now other ≡ last other)
      → (put_entry range (Some state) now other ≡ first other) ⊎ (put_entry range (Some state) now other ≡ last other)
  by (inl e) (inl f) = inl (e ∙ f)
  by (inl e) (inr f) = inr (e ∙ f)
  by (inr e) f = inr e

pub sets_lawful : (plan : RackPlan) (held : Holdings) (first last : Entries) → IsLawful plan held first → IsLawful plan held last → AreSameBlocks first last
    → (notes : List Note) → AllByRecursion (SetsTo last) notes → (now : Entries) → IsBetween first last now → AreLawful plan held now notes
sets_lawful plan held first last one other blocks [] all now between = tt
sets_lawful plan held first last one other blocks (note.Region range state ∷ notes) all now between =
    let next = set-between first last now range state all.0 between in
    (tt, lawful_between plan held first last (put_entry range (Some state) now) one other blocks next, sets_lawful plan held first last one other blocks notes all.1 (put_entry range (Some state) now) next)
sets_lawful plan held first last one other blocks (n ∷ notes) all now between = absurd all.0

sets_hold : (held : Holdings) (last : Entries) (notes : List Note) → AllByRecursion (SetsTo last) notes → fold held_after held notes ≡ held
sets_hold held last [] all = refl
sets_hold held last (note.Region range state ∷ notes) all = sets_hold held last notes all.1
sets_hold held last (n ∷ notes) all = absurd all.0

-- what is as at the end, or has its note still to come, is as at the end when all have come
pub sets_reach : (last : Entries) (notes : List Note) → AllByRecursion (SetsTo last) notes → (now : Entries) (range : RangeView)
    → (now range ≡ last range) ⊎ IsAmongSet range notes → fold entries_after now notes range ≡ last range
sets_reach last [] all now range (inl e) = e
sets_reach last [] all now range (inr e) = absurd e
sets_reach last (note.Region other state ∷ notes) all now range is = sets_reach last notes all.1 (put_entry other (Some state) now) range (by (set-cases last now other state all.0 range) is) where
  by : (put_entry other (Some state) now range ≡ now range) ⊎ (put_entry other (Some state) now range ≡ last range)
      → (now range ≡ last range) ⊎ ((other ≡ range) ⊎ IsAmongSet range notes)
      → (put_entry other (Some state) now range ≡ last range) ⊎ IsAmongSet range notes
  by (inr e) f = inl e
  by (inl e) (inl f) = inl (e ∙ f)
  by (inl e) (inr (inl same)) = inl (ap (λ t. if t then Some state else now range) (subst (λ r. same_range other r ≡ true) same (same_range-refl other)) ∙ sym all.0 ∙ ap last same)
  by (inl e) (inr (inr later)) = inr later
sets_reach last (n ∷ notes) all now range is = absurd all.0

pub sets_told : (plan : RackPlan) (old new : World) (notes : List Note) → IsCoherent old → IsWithin plan old → IsCoherent new → IsWithin plan new → new.frames ≡ old.frames
    → AreSameBlocks (entries_in old) (entries_in new) → AllByRecursion (SetsTo (entries_in new)) notes
    → ((range : RangeView) → (entries_in old range ≡ entries_in new range) ⊎ IsAmongSet range notes) → Tells plan old notes new
sets_told plan old new notes safe within safe_then within_then frames blocks all reach =
    let held : held_in new ≡ held_in old = λ i blade page. option_map (λ f. f.writable) (frames i blade page) in
    tells-from plan old new notes
    (sets_lawful plan (held_in old) (entries_in old) (entries_in new) (lawful_in plan old safe within)
    (subst (λ h. IsLawful plan h (entries_in new)) held (lawful_in plan new safe_then within_then)) blocks notes all (entries_in old) (λ range. inl refl))
    (record {
      frames = λ blade page. ap (λ h. h blade page) (sets_hold (held_in old) (entries_in new) notes all ∙ sym held);
      states = λ range. sets_reach (entries_in new) notes all (entries_in old) range (reach range);
    })
