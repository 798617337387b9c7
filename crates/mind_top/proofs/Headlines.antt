-- What stands at the end of a run.
use Rattle.std.proofs.Common.{◌≡◌, ◌≤◌, ◌∙◌, ℕ, List, [], ◌++◌, length, ap, sym, subst, Option, Some}
use Rattle.std.specs.List.{AllByRecursion}
use Rattle.mind_base.specs.Fit.{IsFit}
use Rattle.mind_base.specs.declared.images.Image.{Image}
use Rattle.mind_base.specs.declared.events.Event.{Event}
use Rattle.mind_base.specs.declared.notes.Note.{Note}
use Rattle.mind_base.specs.declared.plans.RackPlan.{RackPlan}
use Rattle.mind_inputs.specs.Inputs.{Accepted}
use Rattle.mind_steps.specs.Run.{events, below, IsWholeRun}
use Rattle.rack_core.specs.Calls.{Notes}
use Rattle.rack_core.specs.Rack.{RackView}
use Rattle.rack_core.specs.Start.{IsStart}
use Rattle.mind_top.specs.Headline.{setup_by, RunWrites, IsTextOf, StopsIn}
use Rattle.rack_core.proofs.Callers.{shaped-counted}
use Rattle.report_text.specs.Force.{peak}
use Rattle.report_text.proofs.Callers.{peak-within}
use Rattle.rack_settle.specs.Ran.{IsRunFor, HasRun, HasStopped}
use Rattle.rack_settle.proofs.Callers.{happens_in_log, settled_labels_of}
use Rattle.mind_top.specs.Ran.{RanThrough}
use Rattle.mind_top.specs.declared.words.Output.{Output}
use Rattle.mind_top.specs.declared.words.Output.TheVariants.{Report, Journal}
use Rattle.mind_top.proofs.Rans.{whole-run, ran-events}

-- the rack at the end of all events of the accepted inputs
pub ran-through : (accepted : Accepted) (images : List Image) (es : List Event) (first last : RackView) (log : List Note) → images ≡ accepted.images → es ≡ accepted.events
    → IsFit accepted.plan → AllByRecursion (IsRunFor accepted.plan) accepted.events → IsStart accepted.plan first → HasRun images es first last log → RanThrough accepted log last
ran-through accepted images es first last log same all fit fits start has =
    let P : List Image → Type 0 = λ xs. HasRun xs accepted.events first last log in
    let Q : List Event → Type 0 = λ xs. HasRun images xs first last log in
    let run = subst P same (subst Q all has) in
    let counted = shaped-counted last run.kept.shape in
    record {
      plan = run.plan ∙ start.of_plan;
      first = first;
      start = start;
      ran = run.ran;
      stands = run.stands;
      kept = run.kept;
      settled = settled_labels_of accepted.images accepted.plan accepted.events first last log fit start fits run.ran counted;
      at_once = happens_in_log accepted.images accepted.plan accepted.events first last log fit start fits run.ran counted;
    }

pub all-events : (accepted : Accepted) (images : List Image) (es : List Event) (first last : RackView) (log : List Note) → es ≡ accepted.events
    → HasRun images es first last log → events log ≡ below (length accepted.events)
all-events accepted images es first last log all has =
    let P : List Event → Type 0 = λ xs. events log ≡ below (length xs) in subst P all (ran-events images es first last log has.ran)

pub through-whole : (accepted : Accepted) (log : List Note) (rack : RackView) → RanThrough accepted log rack → IsWholeRun (setup_by accepted) log
through-whole accepted log rack ran = whole-run accepted.images accepted.plan rack log ran.plan ran.stands

-- no more entries are in force at any point than the directory has slots
through-slots : (accepted : Accepted) (log : List Note) (rack : RackView) → RanThrough accepted log rack → peak log ≤ accepted.plan.slots
through-slots accepted log rack ran = let P : RackPlan → Type 0 = λ p. peak log ≤ p.slots in subst P ran.plan (peak-within rack.plan log ran.stands.told.lawful)

-- its log and the rack are left, and the text is what is asked for
pub run-writes : (output : Output) (accepted : Accepted) (log : List Note) (end : Option RackView) (rack : RackView) (text : List ℕ) → end ≡ Some rack → RanThrough accepted log rack
    → events log ≡ below (length accepted.events) → IsTextOf output accepted log text → RunWrites output accepted (record { log = log; end = end }) text
run-writes Report accepted log end rack text left ran all (state, whole, report) = record {
  state = state;
  run = record { run = whole; events = all; slots = through-slots accepted log rack ran; rack = rack; end = left; ran = ran };
  report = report;
}
run-writes Journal accepted log end rack text left ran all is =
    let (state, whole) = through-whole accepted log rack ran in
    record { state = state; run = record { run = whole; events = all; slots = through-slots accepted log rack ran; rack = rack; end = left; ran = ran }; journal = is }

-- where an event stopped, by the images and the events that were accepted
pub stops-in : (accepted : Accepted) (images : List Image) (es : List Event) (first rack : RackView) (log : List Note) → images ≡ accepted.images → es ≡ accepted.events
    → IsStart accepted.plan first → HasStopped images es first rack log → StopsIn accepted rack log
stops-in accepted images es first rack log same all start stopped =
    let P : List Image → Type 0 = λ xs. HasStopped xs accepted.events first rack log in
    let Q : List Event → Type 0 = λ xs. HasStopped images xs first rack log in
    record { first = first; start = start; stopped = subst P same (subst Q all stopped) }

-- what was put behind an empty log is the log
pub of-empty : (Did : List Note → Type 0) (old new : List Note) → old ≡ [] → Notes Did old new → Did new
of-empty Did old new empty (added, did, is) = subst Did (sym (is ∙ ap (λ (notes : List Note). notes ++ added) empty)) did
