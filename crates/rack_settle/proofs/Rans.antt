-- A rack that runs through events, one event after another.
use Rattle.std.proofs.Common.{◌≡◌, ℕ, suc, ◌+◌, ◌⊎◌, inl, inr, ◌∙◌, true, false, List, [], ◌∷◌, ◌++◌, length, take, drop, ap, sym, refl, subst, Some, Result, Ok, Err, append-nil, arith}
use Rattle.std.specs.Prelude.{IsOk, OnOk}
use Rattle.std.specs.List.{slice_get}
use Rattle.std.proofs.lemmas.List.{append_assoc, take-append-drop}
use Rattle.mind_base.specs.declared.events.Event.{Event}
use Rattle.mind_base.specs.declared.images.Image.{Image}
use Rattle.mind_base.specs.declared.notes.Note.{Note}
use Rattle.mind_base.specs.declared.notes.Note.TheVariants as note
use Rattle.tso_machine.specs.State.{start_state}
use Rattle.tso_machine.specs.Replay.{replay}
use Rattle.tso_machine.proofs.Callers.{labels-none, take-at}
use Rattle.rack_core.specs.Calls.{IsKept, Notes}
use Rattle.rack_core.specs.Noted.{AreInPlace, CarriesOn}
use Rattle.rack_core.specs.Rack.{RackView}
use Rattle.rack_core.specs.StandLog.{made_from, StandsForLog}
use Rattle.rack_core.proofs.Callers.{accesses-event, log-event, noted-released}
use Rattle.rack_settle.specs.Ran.{LeadsOrSettles, Ran, Runs, HasRun, HasStopped}

pub when-ok : {T E P : Type 0} (r : Result T E) → IsOk r → OnOk r P → P
when-ok (Ok x) ok p = p
when-ok (Err e) ok p = absurd (let no : false ≡ true = ok in cc)

-- ---- one event more

pub ran-more : (images : List Image) (from : ℕ) (es : List Event) (e : Event) (first mid last : RackView) (notes added : List Note)
    → Ran images from es first mid notes → LeadsOrSettles images e mid last added → AreInPlace mid.plan e added → Ran images from (es ++ e ∷ []) first last (notes ++ note.Event (from + length es) ∷ added)
ran-more images from [] e first mid last notes added (same, none) leads places = (
  last,
  added,
  [],
  subst (λ r. LeadsOrSettles images e r last added) same leads,
  subst (λ (r : RackView). AreInPlace r.plan e added) same places,
  (refl, refl),
  ap (λ ns. ns ++ note.Event (from + 0) ∷ added) none
      ∙ ap (λ n. note.Event n ∷ added) (omega arith)
      ∙ ap (λ ns. note.Event from ∷ ns) (sym (append-nil added)),
)
ran-more images from (x ∷ es) e first mid last notes added (next, now, later, leads_on, stand, rest, split) leads places = (
  next,
  now,
  later ++ note.Event (suc from + length es) ∷ added,
  leads_on,
  stand,
  ran-more images (suc from) es e next mid last later added rest leads places,
  ap (λ ns. ns ++ note.Event (from + suc (length es)) ∷ added) split
      ∙ ap (λ n. note.Event from ∷ ((now ++ later) ++ note.Event n ∷ added)) (omega arith)
      ∙ ap (λ ns. note.Event from ∷ ns) (append_assoc now later (note.Event (suc from + length es) ∷ added)),
)

-- the number of an event is no label
pub stands-noted : (images : List Image) (rack : RackView) (log : List Note) (index : ℕ) → StandsForLog images rack log → StandsForLog images rack (log ++ note.Event index ∷ [])
stands-noted images rack log index stands =
    let u = made_from images rack.plan in
    record {
      state = stands.state;
      run = ap (λ ls. replay u (start_state u) ls) (labels-none log (note.Event index) refl) ∙ stands.run;
      at = stands.at;
      room = stands.room;
      told = log-event rack.plan rack stands.at.flat log index stands.at.coherent stands.at.sound.blades stands.room stands.told;
      accesses = accesses-event u log index stands.accesses;
      released = noted-released rack log index stands.released;
    }

-- notes that are put behind a log
pub has-run-none : (images : List Image) (rack : RackView) (log : List Note) → IsKept rack → StandsForLog images rack [] → Notes (HasRun images [] rack rack) log log
has-run-none images rack log kept stands = ([], record { plan = refl; kept = kept; ran = (refl, refl); stands = stands }, sym (append-nil log))

has-run-more : (images : List Image) (done : List Event) (e : Event) (first mid last : RackView) (before behind : List Note)
    → HasRun images done first mid before → Runs images (length done) e mid last before behind → last.plan ≡ mid.plan → HasRun images (done ++ e ∷ []) first last behind
has-run-more images done e first mid last before behind has runs plan =
    let P : List Note → Type 0 = λ ns. StandsForLog images last ns in
    let Q : List Note → Type 0 = λ ns. Ran images 0 (done ++ e ∷ []) first last ns in
    let R : ℕ → Type 0 = λ n. Ran images 0 (done ++ e ∷ []) first last (before ++ note.Event n ∷ runs.added) in
    let ran : R (length done) = subst R (let same : 0 + length done ≡ length done = omega arith in same) (ran-more images 0 done e first mid last before runs.added has.ran runs.leads runs.places) in
    let numbered : (before ++ note.Event (length done) ∷ []) ++ runs.added ≡ before ++ note.Event (length done) ∷ runs.added = append_assoc before (note.Event (length done) ∷ []) runs.added in
    record {
      plan = plan ∙ has.plan;
      kept = runs.kept;
      ran = subst Q (sym runs.log) ran;
      stands = subst P (numbered ∙ sym runs.log) (runs.stands (before ++ note.Event (length done) ∷ []) (stands-noted images mid before (length done) has.stands));
    }

-- the same by the place of an event in its schedule
pub has-run-at : (images : List Image) (es : List Event) (i : ℕ) (e : Event) (first mid last : RackView) (log before behind : List Note) → slice_get es i ≡ Some e → length (take i es) ≡ i
    → Notes (HasRun images (take i es) first mid) log before → Runs images i e mid last before behind → last.plan ≡ mid.plan → Notes (HasRun images (take (i + 1) es) first last) log behind
has-run-at images es i e first mid last log before behind at there (added, has, is) runs plan =
    let now = note.Event i ∷ runs.added in
    let P : List Event → Type 0 = λ xs. HasRun images xs first last (added ++ now) in
    let Q : ℕ → Type 0 = λ n. Runs images n e mid last added (added ++ now) in
    let moved : Q i = record { added = runs.added; leads = runs.leads; places = runs.places; stands = runs.stands; kept = runs.kept; log = refl } in (
      added ++ now,
      subst P (sym (take-at es i e at)) (has-run-more images (take i es) e first mid last added (added ++ now) has (subst Q (sym there) moved) plan),
      runs.log ∙ ap (λ ns. ns ++ now) is ∙ append_assoc log added now,
    )

-- the events before one of them, itself, and those behind it
parts-at : (es : List Event) (i : ℕ) (e : Event) → slice_get es i ≡ Some e → es ≡ take i es ++ (e ∷ drop (i + 1) es)
parts-at es i e at = sym (take-append-drop (i + 1) es) ∙ ap (λ xs. xs ++ drop (i + 1) es) (take-at es i e at) ∙ append_assoc (take i es) (e ∷ []) (drop (i + 1) es)

-- where an event stopped
pub has-stopped-at : (images : List Image) (es : List Event) (i : ℕ) (e : Event) (first last stopped : RackView) (log before behind : List Note) → slice_get es i ≡ Some e → length (take i es) ≡ i
    → Notes (HasRun images (take i es) first last) log before → (behind ≡ before) ⊎ (behind ≡ before ++ note.Event i ∷ []) → stopped.plan ≡ last.plan
    → Notes (HasStopped images es first stopped) log behind
has-stopped-at images es i e first last stopped log before behind at there (added, has, is) (inl same) plan =
    (added, record { done = take i es; event = e; left = drop (i + 1) es; front = parts-at es i e at; last = last; before = added; ran = has; behind = inl refl; plan = plan ∙ has.plan }, same ∙ is)
has-stopped-at images es i e first last stopped log before behind at there (added, has, is) (inr more) plan = (
  added ++ note.Event i ∷ [],
  record {
    done = take i es;
    event = e;
    left = drop (i + 1) es;
    front = parts-at es i e at;
    last = last;
    before = added;
    ran = has;
    behind = inr (ap (λ n. added ++ note.Event n ∷ []) (sym there));
    plan = plan ∙ has.plan;
  },
  more ∙ ap (λ ns. ns ++ note.Event i ∷ []) is ∙ append_assoc log added (note.Event i ∷ []),
)

-- ---- what one event adds

-- notes that were added to none
all-added : (Did : List Note → Type 0) (start noted : List Note) → start ≡ [] → Notes Did start noted → Did noted
all-added Did start noted none (added, did, is) = subst Did (sym (is ∙ ap (λ ns. ns ++ added) none)) did

pub runs-of : (images : List Image) (index : ℕ) (e : Event) (old new : RackView) (before mid behind start noted : List Note) → mid ≡ before ++ note.Event index ∷ [] → start ≡ []
    → Notes (LeadsOrSettles images e old new) start noted → Notes (AreInPlace old.plan e) start noted → Notes (CarriesOn images old new) start noted → IsKept new → behind ≡ mid ++ noted
    → Runs images index e old new before behind
runs-of images index e old new before mid behind start noted numbered none leads places stands kept more = record {
  added = noted;
  leads = all-added (LeadsOrSettles images e old new) start noted none leads;
  places = all-added (AreInPlace old.plan e) start noted none places;
  stands = all-added (CarriesOn images old new) start noted none stands;
  kept = kept;
  log = more ∙ ap (λ ns. ns ++ noted) numbered ∙ append_assoc before (note.Event index ∷ []) noted;
}
