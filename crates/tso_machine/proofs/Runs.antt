-- Runs that go on by a label, and fronts of runs.
use Rattle.std.proofs.Common.{◌≡◌, ℕ, ◌+◌, suc, ◌∙◌, ap, sym, refl, subst, true, false, List, [], ◌∷◌, ◌++◌, length, take, drop, Option, Some, None, Result, Ok, Err, ◌≤◌, arith, add-zero, length-append, append-nil, take-append-drop}
use Rattle.std.specs.List.{slice_get, cons_option}
use Rattle.std.specs.Result.{OnErr}
use Rattle.std.proofs.lemmas.List.{take_more, take_all}
use Rattle.std.proofs.lemmas.List.Elements.{filter_map-append}
use Rattle.std.proofs.lemmas.Option.{get_or_from_slice_get, slice_get_within}
use Rattle.mind_base.specs.declared.notes.Note.{Note}
use Rattle.tso_machine.specs.declared.labels.Label.{Label}
use Rattle.tso_machine.specs.declared.labels.Replay.TheVariants as answer
use Rattle.tso_machine.specs.State.{Setup, State}
use Rattle.tso_machine.specs.Step.{after}
use Rattle.tso_machine.specs.Replay.{label_of, labels, Replayed, Whole, Stuck, advanced, advance, advance_all, replay}
use Rattle.tso_machine.specs.Machine.{MachineView, StandsFor, StepLeadsTo, StepLeads, ReplaysTo, Replays, MachineReaches, StandsInside}

-- labels in two parts are replayed one part after the other
pub advance_all-append : (u : Setup) (n : ℕ) (r : Replayed) (xs ys : List Label)
    → advance_all u n r (xs ++ ys) ≡ advance_all u (n + length xs) (advance_all u n r xs) ys
advance_all-append u n r [] ys = ap (λ k. advance_all u k r ys) (sym (add-zero n))
advance_all-append u n r (x ∷ xs) ys = advance_all-append u (suc n) (advance u n r x) xs ys
    ∙ ap (λ k. advance_all u k (advance_all u (suc n) (advance u n r x) xs) ys) (omega arith)

-- behind a label that is not enabled nothing happens
pub advance_all-stuck : (u : Setup) (n k : ℕ) (s : State) (ls : List Label) → advance_all u n (Stuck k s) ls ≡ Stuck k s
advance_all-stuck u n k s [] = refl
advance_all-stuck u n k s (l ∷ ls) = advance_all-stuck u (suc n) k s ls

-- a run that is whole goes on by what one more label does
pub replay-more : (u : Setup) (s t : State) (ls : List Label) (l : Label) → replay u s ls ≡ Whole t
    → replay u s (ls ++ l ∷ []) ≡ advanced (length ls) t (after u t l)
replay-more u s t ls l e = advance_all-append u 0 (Whole s) ls (l ∷ [])
    ∙ ap (λ r. advance u (0 + length ls) r l) e
    ∙ ap (λ k. advanced k t (after u t l)) (omega arith)

-- one that is stuck stays stuck
pub replay-stuck : (u : Setup) (s t : State) (k : ℕ) (ls more : List Label) → replay u s ls ≡ Stuck k t → replay u s (ls ++ more) ≡ Stuck k t
replay-stuck u s t k ls more e = advance_all-append u 0 (Whole s) ls more
    ∙ ap (λ r. advance_all u (0 + length ls) r more) e
    ∙ advance_all-stuck u (0 + length ls) k t more

-- a front of a run that is whole is whole
abbrev WholeOne : Replayed → Type 0
WholeOne r = (t : State) × (r ≡ Whole t)

front-of : (u : Setup) (n : ℕ) (r : Replayed) (more : List Label) (t : State) → advance_all u n r more ≡ Whole t → WholeOne r
front-of u n (Whole s) more t e = (s, refl)
front-of u n (Stuck k s) more t e = absurd (let no_whole : Stuck k s ≡ Whole t = sym (advance_all-stuck u n k s more) ∙ e in cc)

pub whole-front : (u : Setup) (s t : State) (ls more : List Label) → replay u s (ls ++ more) ≡ Whole t → (m : State) × (replay u s ls ≡ Whole m)
whole-front u s t ls more e = front-of u (0 + length ls) (replay u s ls) more t (sym (advance_all-append u 0 (Whole s) ls more) ∙ e)

-- ---- what a machine that stands for the end of a run does with one more label

-- by what the label leads to
went-on : (u : Setup) (s t : State) (ls : List Label) (l : Label) (old new : MachineView) (o : Option State)
    → replay u s (ls ++ l ∷ []) ≡ advanced (length ls) t o → StepLeadsTo true old new o → MachineReaches u s (ls ++ l ∷ []) new
went-on u s t ls l old new None e leads = absurd (let no_step : true ≡ false = leads.0 in cc)
went-on u s t ls l old new (Some next) e leads = (next, e, leads.1)

pub reaches-label : (u : Setup) (s : State) (ls : List Label) (l : Label) (old new : MachineView)
    → old.setup ≡ u → MachineReaches u s ls old → StepLeads true l old new → MachineReaches u s (ls ++ l ∷ []) new
reaches-label u s ls l old new same (t, whole, stands) leads =
    let P : Setup → Type 0 = λ v. StepLeadsTo true old new (after v t l) in
    went-on u s t ls l old new (after u t l) (replay-more u s t ls l whole) (subst P same (leads t stands))

-- it is not enabled
stopped : (u : Setup) (s t : State) (ls : List Label) (l : Label) (old new : MachineView) (o : Option State)
    → replay u s (ls ++ l ∷ []) ≡ advanced (length ls) t o → StandsFor old t → StepLeadsTo false old new o
    → (replay u s (ls ++ l ∷ []) ≡ Stuck (length ls) t) × StandsFor new t
stopped u s t ls l old new None e stands leads =
    let P : MachineView → Type 0 = λ m. StandsFor m t in (e, subst P (sym leads.1) stands)
stopped u s t ls l old new (Some next) e stands leads = absurd (let no_step : false ≡ true = leads.0 in cc)

pub stuck-label : (u : Setup) (s : State) (ls more : List Label) (l : Label) (old new : MachineView)
    → old.setup ≡ u → MachineReaches u s ls old → StepLeads false l old new → ReplaysTo (answer.Stuck (length ls)) new (replay u s ((ls ++ l ∷ []) ++ more))
stuck-label u s ls more l old new same (t, whole, stands) leads =
    let P : Setup → Type 0 = λ v. StepLeadsTo false old new (after v t l) in
    let stop = stopped u s t ls l old new (after u t l) (replay-more u s t ls l whole) stands (subst P same (leads t stands)) in
    let Q : Replayed → Type 0 = λ r. ReplaysTo (answer.Stuck (length ls)) new r in
    subst Q (sym (replay-stuck u s t (length ls) (ls ++ l ∷ []) more stop.0)) (refl, stop.1)

-- ---- notes

pub labels-none : (notes : List Note) (note : Note) → label_of note ≡ None → labels (notes ++ note ∷ []) ≡ labels notes
labels-none notes note e = filter_map-append label_of notes (note ∷ [])
    ∙ ap (λ o. labels notes ++ cons_option o []) e ∙ append-nil (labels notes)

pub labels-some : (notes : List Note) (note : Note) (l : Label) → label_of note ≡ Some l → labels (notes ++ note ∷ []) ≡ labels notes ++ l ∷ []
labels-some notes note l e = filter_map-append label_of notes (note ∷ []) ∙ ap (λ o. labels notes ++ cons_option o []) e

-- the machine took the labels of these notes, so many of them
pub record Follows (old new : MachineView) (notes : List Note) (taken : ℕ) : Type 0 where
  pub setup : new.setup ≡ old.setup
  pub counted : taken ≡ length (labels notes)
  pub reaches : (s : State) → StandsFor old s → MachineReaches old.setup s (labels notes) new

pub follows-start : (m : MachineView) → Follows m m [] 0
follows-start m = record { setup = refl; counted = refl; reaches = λ s stands. (s, refl, stands) }

pub follows-none : (old new : MachineView) (notes : List Note) (note : Note) (taken : ℕ) → label_of note ≡ None
    → Follows old new notes taken → Follows old new (notes ++ note ∷ []) taken
follows-none old new notes note taken e f =
    let P : List Label → Type 0 = λ ls. (taken ≡ length ls) × ((s : State) → StandsFor old s → MachineReaches old.setup s ls new) in
    let p = subst P (sym (labels-none notes note e)) (f.counted, f.reaches) in
    record { setup = f.setup; counted = p.0; reaches = p.1 }

pub follows-some : (old mid new : MachineView) (notes : List Note) (note : Note) (l : Label) (taken : ℕ) → label_of note ≡ Some l
    → Follows old mid notes taken → StepLeads true l mid new → new.setup ≡ mid.setup → Follows old new (notes ++ note ∷ []) (taken + 1)
follows-some old mid new notes note l taken e f leads same =
    let P : List Label → Type 0 = λ ls. (taken + 1 ≡ length ls) × ((s : State) → StandsFor old s → MachineReaches old.setup s ls new) in
    let p = subst P (sym (labels-some notes note l e)) (
      omega (arith, f.counted, length-append (labels notes) (l ∷ [])),
      λ s stands. reaches-label old.setup s (labels notes) l mid new f.setup (f.reaches s stands) leads,
    ) in
    record { setup = same ∙ f.setup; counted = p.0; reaches = p.1 }

pub follows-all : (old new : MachineView) (notes : List Note) (taken : ℕ) → Follows old new notes taken → Replays answer.Whole (labels notes) old new
follows-all old new notes taken f s stands =
    let r = f.reaches s stands in
    let P : Replayed → Type 0 = λ x. ReplaysTo answer.Whole new x in
    subst P (sym r.1) r.2

-- labels of a note and of what comes behind it
labels-split : (before behind : List Note) (note : Note) (l : Label) → label_of note ≡ Some l
    → labels ((before ++ note ∷ []) ++ behind) ≡ (labels before ++ l ∷ []) ++ labels behind
labels-split before behind note l e = filter_map-append label_of (before ++ note ∷ []) behind
    ∙ ap (λ ls. ls ++ labels behind) (labels-some before note l e)

pub follows-stuck : (old mid new : MachineView) (before behind : List Note) (note : Note) (l : Label) (taken : ℕ) → label_of note ≡ Some l
    → Follows old mid before taken → StepLeads false l mid new → Replays (answer.Stuck taken) (labels ((before ++ note ∷ []) ++ behind)) old new
follows-stuck old mid new before behind note l taken e f leads s stands =
    let P : ℕ → Type 0 = λ k. ReplaysTo (answer.Stuck k) new (replay old.setup s ((labels before ++ l ∷ []) ++ labels behind)) in
    let Q : List Label → Type 0 = λ ls. ReplaysTo (answer.Stuck taken) new (replay old.setup s ls) in
    subst Q (sym (labels-split before behind note l e))
    (subst P (sym f.counted) (stuck-label old.setup s (labels before) (labels behind) l mid new f.setup (f.reaches s stands) leads))

-- the machine stands inside the run where it took a front of the notes
pub follows-inside : (old new : MachineView) (before behind : List Note) (taken : ℕ) → Follows old new before taken
    → StandsInside (labels (before ++ behind)) old new
follows-inside old new before behind taken f s stands =
    (labels before, labels behind, filter_map-append label_of before behind, f.reaches s stands)

-- ---- the same by the place of a note in a log

pub take-at : {X : Type 0} (xs : List X) (i : ℕ) (x : X) → slice_get xs i ≡ Some x → take (i + 1) xs ≡ take i xs ++ x ∷ []
take-at xs i x e = take_more xs i x (slice_get_within xs i x e)
    ∙ ap (λ y. take i xs ++ y ∷ []) (get_or_from_slice_get xs i x x e)

split-at : (notes : List Note) (i : ℕ) (note : Note) → slice_get notes i ≡ Some note → (take i notes ++ note ∷ []) ++ drop (i + 1) notes ≡ notes
split-at notes i note e = ap (λ ns. ns ++ drop (i + 1) notes) (sym (take-at notes i note e)) ∙ take-append-drop (i + 1) notes

pub follows-none-at : (old new : MachineView) (notes : List Note) (i : ℕ) (note : Note) (taken : ℕ) → slice_get notes i ≡ Some note → label_of note ≡ None
    → Follows old new (take i notes) taken → Follows old new (take (i + 1) notes) taken
follows-none-at old new notes i note taken at e f =
    let P : List Note → Type 0 = λ ns. Follows old new ns taken in
    subst P (sym (take-at notes i note at)) (follows-none old new (take i notes) note taken e f)

pub follows-some-at : (old mid new : MachineView) (notes : List Note) (i : ℕ) (note : Note) (l : Label) (taken : ℕ) → slice_get notes i ≡ Some note → label_of note ≡ Some l
    → Follows old mid (take i notes) taken → StepLeads true l mid new → new.setup ≡ mid.setup → Follows old new (take (i + 1) notes) (taken + 1)
follows-some-at old mid new notes i note l taken at e f leads same =
    let P : List Note → Type 0 = λ ns. Follows old new ns (taken + 1) in
    subst P (sym (take-at notes i note at)) (follows-some old mid new (take i notes) note l taken e f leads same)

pub follows-stuck-at : (old mid new : MachineView) (notes : List Note) (i : ℕ) (note : Note) (l : Label) (taken : ℕ) → slice_get notes i ≡ Some note → label_of note ≡ Some l
    → Follows old mid (take i notes) taken → StepLeads false l mid new → Replays (answer.Stuck taken) (labels notes) old new
follows-stuck-at old mid new notes i note l taken at e f leads =
    let P : List Note → Type 0 = λ ns. Replays (answer.Stuck taken) (labels ns) old new in
    subst P (split-at notes i note at) (follows-stuck old mid new (take i notes) (drop (i + 1) notes) note l taken e f leads)

pub follows-inside-at : (old new : MachineView) (notes : List Note) (i taken : ℕ) → Follows old new (take i notes) taken → StandsInside (labels notes) old new
follows-inside-at old new notes i taken f =
    let P : List Note → Type 0 = λ ns. StandsInside (labels ns) old new in
    subst P (take-append-drop i notes) (follows-inside old new (take i notes) (drop i notes) taken f)

pub follows-end : (old new : MachineView) (notes : List Note) (i taken : ℕ) → length notes ≤ i → Follows old new (take i notes) taken → Replays answer.Whole (labels notes) old new
follows-end old new notes i taken past f =
    let P : List Note → Type 0 = λ ns. Replays answer.Whole (labels ns) old new in
    subst P (take_all i notes past) (follows-all old new (take i notes) taken f)

-- an error of memory says nothing of what it leaves by itself
pub on_err : {T E P : Type 0} (r : Result T E) → P → OnErr r P
on_err (Ok x) p = tt
on_err (Err e) p = p
