-- The blocks that a report counts as in force are those of the entries by which its log is lawful.
use Rattle.std.proofs.Common.{◌≡◌, ℕ, suc, zero, ◌<◌, ◌≤◌, ◌∙◌, max, Bool, true, false, cond, ◌||◌, ◌&&◌, List, [], ◌∷◌, length, take, fold, ap, sym, refl, subst, Option, Some, None, arith}
use Rattle.std.specs.Prelude.{is_some, option_and_then}
use Rattle.std.specs.List.{AllByRecursion, IsDistinct, list_any}
use Rattle.mind_base.specs.Range.{RangeView, halves_of, same_range}
use Rattle.mind_base.specs.declared.notes.Note.{Note}
use Rattle.mind_base.specs.declared.notes.Note.TheVariants as note
use Rattle.mind_base.specs.declared.notes.State.{State}
use Rattle.mind_base.specs.declared.plans.RackPlan.{RackPlan}
use Rattle.mind_base.proofs.Callers.{same_range-refl, same_range-laws}
use Rattle.region_directory.specs.Merge.{merged_state}
use Rattle.coherence.specs.Held.{Holdings, Entries, no_holdings, no_entries, put_entry, split_in, joint_state, merged_to, held_after, entries_after, in_force}
use Rattle.coherence.specs.Lawful.{IsLawful, MayBeNoted, AreLawful}
use Rattle.report_text.specs.Force.{has_block, without, entered, split_into, merged_from, after_note, blocks_in_force, peak_within, peak}
use Rattle.report_text.specs.InForce.{AreInForce}
use Rattle.report_text.proofs.Keeping.{any-in, any-out, distinct-in, distinct-out}

-- ---- one entry more or less

put-test : (b : Bool) (o p : Option State) → is_some (cond b o p) ≡ cond b (is_some o) (is_some p)
put-test true o p = refl
put-test false o p = refl

with-one : (blocks : List RangeView) (entries : Entries) (range : RangeView) (state : State) → AreInForce blocks entries → AreInForce (entered range blocks) (put_entry range (Some state) entries)
with-one blocks entries range state are = record {
  same = λ r. any-in same_range-laws range r blocks (has_block range blocks) refl ∙ ap (cond (same_range range r) true) (are.same r) ∙ sym (put-test (same_range range r) (Some state) (entries r));
  apart = distinct-in same_range-laws range blocks (has_block range blocks) refl are.apart;
}

less-one : (blocks : List RangeView) (entries : Entries) (range : RangeView) → AreInForce blocks entries → AreInForce (without range blocks) (put_entry range None entries)
less-one blocks entries range are = record {
  same = λ r. any-out same_range-laws range r blocks ∙ ap (cond (same_range range r) false) (are.same r) ∙ sym (put-test (same_range range r) None (entries r));
  apart = distinct-out same_range-laws _ blocks are.apart;
}

-- ---- a split and a merge

split-one : (blocks : List RangeView) (entries : Entries) (range : RangeView) (o : Option State) (halves : Option (RangeView × RangeView)) → entries range ≡ o → AreInForce blocks entries
    → AreInForce (split_into range blocks halves) (split_in entries o range halves)
split-one blocks entries range None None is are = are
split-one blocks entries range None (Some halves) is are =
    subst (λ bs. AreInForce bs entries) (sym (ap (λ b. cond b (entered halves.1 (entered halves.0 (without range blocks))) blocks) (are.same range ∙ ap is_some is))) are
split-one blocks entries range (Some state) None is are = are
split-one blocks entries range (Some state) (Some halves) is are =
    subst (λ bs. AreInForce bs (split_in entries (Some state) range (Some halves)))
    (sym (ap (λ b. cond b (entered halves.1 (entered halves.0 (without range blocks))) blocks) (are.same range ∙ ap is_some is)))
    (with-one _ _ halves.1 state (with-one _ _ halves.0 state (less-one blocks entries range are)))

-- two states go together only where both are there
both-there : (lower upper : Option State) → is_some (option_and_then (λ l. option_and_then (λ u. merged_state l u) upper) lower) ≡ true → (is_some lower && is_some upper) ≡ true
both-there None upper is = is
both-there (Some l) None is = is
both-there (Some l) (Some u) is = refl

merge-one : (blocks : List RangeView) (entries : Entries) (range : RangeView) (halves : RangeView × RangeView) (joint : Option State) → joint_state entries halves ≡ joint → is_some joint ≡ true
    → AreInForce blocks entries → AreInForce (merged_from range blocks (Some halves)) (merged_to entries range halves joint)
merge-one blocks entries range halves None is there are = let never : ⊥ = cc in absurd never
merge-one blocks entries range halves (Some state) is there are =
    let both : (has_block halves.0 blocks && has_block halves.1 blocks) ≡ true =
    (λ i. are.same halves.0 i && are.same halves.1 i) ∙ both-there (entries halves.0) (entries halves.1) (ap is_some is) in
    subst (λ bs. AreInForce bs (merged_to entries range halves (Some state)))
    (sym (ap (λ b. cond b (entered range (without halves.1 (without halves.0 blocks))) blocks) both))
    (with-one _ _ range state (less-one _ _ halves.1 (less-one blocks entries halves.0 are)))

merge-as : (blocks : List RangeView) (entries : Entries) (range : RangeView) (halves : Option (RangeView × RangeView)) → is_some (option_and_then (joint_state entries) halves) ≡ true → halves_of range ≡ halves
    → AreInForce blocks entries → AreInForce (after_note blocks (note.Merge range)) (entries_after entries (note.Merge range))
merge-as blocks entries range None there is are = let never : ⊥ = cc in absurd never
merge-as blocks entries range (Some halves) there is are =
    rw is (merge-one blocks entries range halves (joint_state entries halves) refl there are)

-- ---- a note

after-one : (blocks : List RangeView) (entries : Entries) (n : Note) → MayBeNoted entries n → AreInForce blocks entries → AreInForce (after_note blocks n) (entries_after entries n)
after-one blocks entries (note.Region range state) may are = with-one blocks entries range state are
after-one blocks entries (note.Gone range) may are = less-one blocks entries range are
after-one blocks entries (note.Split range) may are = split-one blocks entries range (entries range) (halves_of range) refl are
after-one blocks entries (note.Merge range) may are = merge-as blocks entries range (halves_of range) may refl are
after-one blocks entries (note.Event index) may are = are
after-one blocks entries (note.Exec hart) may are = are
after-one blocks entries (note.Drain hart) may are = are
after-one blocks entries (note.Command index) may are = are
after-one blocks entries (note.Moved index outcome) may are = are
after-one blocks entries (note.Take blade page writable) may are = are
after-one blocks entries (note.Give blade page) may are = are
after-one blocks entries (note.Down blade page) may are = are

none-yet : AreInForce [] no_entries
unfolding IsDistinct
none-yet = record { same = λ r. refl; apart = tt }

after-all : (plan : RackPlan) (held : Holdings) (entries : Entries) (blocks : List RangeView) (notes : List Note) → AreLawful plan held entries notes → AreInForce blocks entries
    → AreInForce (fold after_note blocks notes) (fold entries_after entries notes)
after-all plan held entries blocks [] lawful are = are
after-all plan held entries blocks (n ∷ notes) lawful are =
    after-all plan (held_after held n) (entries_after entries n) (after_note blocks n) notes lawful.2 (after-one blocks entries n lawful.0 are)

-- at the end of a lawful log
pub force-agrees : (plan : RackPlan) (notes : List Note) → AreLawful plan no_holdings no_entries notes → AreInForce (blocks_in_force notes) (in_force notes)
force-agrees plan notes lawful = after-all plan no_holdings no_entries [] notes lawful none-yet

-- ---- how many

or-left : (a b : Bool) → a ≡ true → (a || b) ≡ true
or-left true b is = refl
or-left false b is = let never : ⊥ = cc in absurd never

or-right : (a b : Bool) → b ≡ true → (a || b) ≡ true
or-right true b is = refl
or-right false b is = is

all-some : (entries : Entries) (blocks : List RangeView) → ((r : RangeView) → has_block r blocks ≡ true → is_some (entries r) ≡ true) → AllByRecursion (λ r. is_some (entries r) ≡ true) blocks
all-some entries [] each = tt
all-some entries (b ∷ blocks) each =
    (each b (or-left (same_range b b) (has_block b blocks) (same_range-refl b)), all-some entries blocks (λ r is. each r (or-right (same_range r b) (has_block r blocks) is)))

within-slots : (plan : RackPlan) (held : Holdings) (entries : Entries) (blocks : List RangeView) → IsLawful plan held entries → AreInForce blocks entries → length blocks ≤ plan.slots
within-slots plan held entries blocks lawful are = lawful.slots blocks are.apart (all-some entries blocks (λ r is. sym (are.same r) ∙ is))

-- behind each of the notes
each-within : (plan : RackPlan) (held : Holdings) (entries : Entries) (blocks : List RangeView) (notes : List Note) (k : ℕ) → AreLawful plan held entries notes → AreInForce blocks entries
    → k < length notes → length (fold after_note blocks (take (suc k) notes)) ≤ plan.slots
each-within plan held entries blocks [] k lawful are lt = absurd (omega (arith, lt))
each-within plan held entries blocks (n ∷ notes) zero lawful are lt =
    within-slots plan (held_after held n) (entries_after entries n) (after_note blocks n) lawful.1 (after-one blocks entries n lawful.0 are)
each-within plan held entries blocks (n ∷ notes) (suc k) lawful are lt =
    each-within plan (held_after held n) (entries_after entries n) (after_note blocks n) notes k lawful.2 (after-one blocks entries n lawful.0 are) (omega (arith, lt))

most-within : (plan : RackPlan) (notes : List Note) (k : ℕ) → AreLawful plan no_holdings no_entries notes → k ≤ length notes → peak_within notes k ≤ plan.slots
most-within plan notes zero lawful le = omega arith
most-within plan notes (suc k) lawful le =
    let before : peak_within notes k ≤ plan.slots = most-within plan notes k lawful (omega (arith, le)) in
    let here : length (blocks_in_force (take (suc k) notes)) ≤ plan.slots = each-within plan no_holdings no_entries [] notes k lawful none-yet (omega (arith, le)) in
    omega (arith, before, here)

-- no more of them are counted than the plan has slots
pub peak-within : (plan : RackPlan) (notes : List Note) → AreLawful plan no_holdings no_entries notes → peak notes ≤ plan.slots
peak-within plan notes lawful = most-within plan notes (length notes) lawful (omega arith)
